-- The bytes that a frame holds, and how they get in and out.
use Rattle.std.specs.Prelude.{◌≡◌, ℕ, ◌<◌, ◌≤◌, List, ◌++◌, length, take, drop, Ok, Err, Result}
use Rattle.refusal.specs.declared.Refusal.{Refusal}
use Rattle.refusal.specs.Numbers.{number_of}
use Rattle.carrier.specs.Means.{Fit}
use Rattle.carrier.specs.declared.frame.Frame.{Frame}

abbrev pub held : Frame → List ℕ
held f = take f.len f.bytes

-- a frame made of these bytes, refused by 1 where they are none or more than 64
abbrev pub Framed : List ℕ → Result Frame Refusal → Type 0
Framed bytes (Ok f) = Fit bytes × (held f ≡ bytes)
Framed bytes (Err e) = (number_of e ≡ 1) × (Fit bytes → ⊥)

-- a buffer whose front these bytes fill, refused by 8 where it has under 64
abbrev pub Filled : List ℕ → List ℕ → Result ℕ Refusal → List ℕ → Type 0
Filled bytes buffer (Ok n) filled = (64 ≤ length buffer) × (n ≡ length bytes) × (filled ≡ bytes ++ drop (length bytes) buffer)
Filled bytes buffer (Err e) filled = (number_of e ≡ 8) × (length buffer < 64) × (filled ≡ buffer)
