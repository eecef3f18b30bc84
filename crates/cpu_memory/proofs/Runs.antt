-- Programs of reads: the clauses of `list_call` as laws, and one program after another.
use Prim.Native.Nat.{ℕ}
use mathlib.Core.Path.{◌≡◌, refl}
use Rattle.cpu_memory.specs.declared.Loaded.{Loaded}
use Rattle.cpu_memory.specs.declared.Loaded.TheVariants.{Byte, Refused}
use Rattle.cpu_memory.specs.Reads.{Reads, done, undocumented, read, gives, refuses, on_byte, run, then, on_result}

pub run_done : {A : Type 0} (f : ℕ → Loaded) (a : A) → run f (done a) ≡ gives a
unfolding run
run_done f a = refl

pub run_undocumented : {A : Type 0} (f : ℕ → Loaded) → run {A = A} f undocumented ≡ refuses 20
unfolding run
run_undocumented f = refl

pub run_read : {A : Type 0} (f : ℕ → Loaded) (a : ℕ) (k : ℕ → Reads A) → run f (read a k) ≡ on_byte (f a) (λ (b : ℕ). run f (k b))
unfolding run
run_read f a k = refl

run_then_byte : {A B : Type 0} (f : ℕ → Loaded) (l : Loaded) (k : ℕ → Reads A) (g : A → Reads B)
    → ((b : ℕ) → run f (then (k b) g) ≡ on_result (run f (k b)) (λ (a : A). run f (g a)))
    → on_byte l (λ (b : ℕ). run f (then (k b) g)) ≡ on_result (on_byte l (λ (b : ℕ). run f (k b))) (λ (a : A). run f (g a))
run_then_byte f (Byte b) k g h = h b
run_then_byte f (Refused n) k g h = refl

pub run_then : {A B : Type 0} (f : ℕ → Loaded) (t : Reads A) (g : A → Reads B) → run f (then t g) ≡ on_result (run f t) (λ (a : A). run f (g a))
unfolding run then
run_then f (done a) g = refl
run_then f undocumented g = refl
run_then f (read a k) g = run_then_byte f (f a) k g (λ (b : ℕ). run_then f (k b) g)
