-- The words of document 01's replay case as events.
use mathlib.Core.Path.{◌≡◌, refl}
use mathlib.Core.Bool.{true, false}
use mathlib.Core.List.{[], ◌∷◌, map}
use Rattle.std.specs.Prelude.{Ok, Err}
use Rattle.events.specs.declared.Event.TheVariants.{Read, Write, Pin}
use Rattle.events.specs.declared.Refusal.TheVariants.{NoPlace}
use Rattle.events.specs.Word.{event, no_event, no_place, bad_byte, decode}

pub replay_words : map decode (0x01000600 ∷ 0x02000F01 ∷ 0x03001B00 ∷ 0x03001B01 ∷ 0x01001000 ∷ 0x02002600 ∷ 0x02001101 ∷ [])
    ≡ Ok (Read 0x06) ∷ Ok (Write 0x0F 0x01) ∷ Ok (Pin 27 false) ∷ Ok (Pin 27 true) ∷ Ok (Read 0x10) ∷ Err NoPlace ∷ Ok (Write 0x11 0x01) ∷ []
unfolding event no_event no_place bad_byte decode
replay_words = refl
