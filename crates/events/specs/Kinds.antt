-- What is asked of events of one kind (document 01, "Event words"): an answer for that kind, by its values, and one for every other
-- event and for a refused word.
use Rattle.std.specs.Prelude.{ℕ, Bool, Ok, Err}
use Rattle.events.specs.Decoded.{Decoded}
use Rattle.events.specs.declared.Event.TheVariants.{Read, Write, Pin, Clock, Polarity}

-- a read of a register
abbrev pub on_read : {A : Type 0} → A → (ℕ → A) → Decoded → A
on_read other asked (Ok (Read a)) = asked a
on_read other asked (Ok (Write a b)) = other
on_read other asked (Ok (Pin p level)) = other
on_read other asked (Ok (Clock k)) = other
on_read other asked (Ok (Polarity vertical level)) = other
on_read other asked (Err r) = other

-- a write of a byte to a register
abbrev pub on_write : {A : Type 0} → A → (ℕ → ℕ → A) → Decoded → A
on_write other asked (Ok (Read a)) = other
on_write other asked (Ok (Write a b)) = asked a b
on_write other asked (Ok (Pin p level)) = other
on_write other asked (Ok (Clock k)) = other
on_write other asked (Ok (Polarity vertical level)) = other
on_write other asked (Err r) = other

-- a level given to a pin
abbrev pub on_pin : {A : Type 0} → A → (ℕ → Bool → A) → Decoded → A
on_pin other asked (Ok (Read a)) = other
on_pin other asked (Ok (Write a b)) = other
on_pin other asked (Ok (Pin p level)) = asked p level
on_pin other asked (Ok (Clock k)) = other
on_pin other asked (Ok (Polarity vertical level)) = other
on_pin other asked (Err r) = other

-- a clock
abbrev pub on_clock : {A : Type 0} → A → (ℕ → A) → Decoded → A
on_clock other asked (Ok (Read a)) = other
on_clock other asked (Ok (Write a b)) = other
on_clock other asked (Ok (Pin p level)) = other
on_clock other asked (Ok (Clock k)) = asked k
on_clock other asked (Ok (Polarity vertical level)) = other
on_clock other asked (Err r) = other
