-- The refusals of reading and writing, each with what it tells: number, layer, message and position.
use Rattle.std.specs.Prelude.{◌≡◌, ℕ, Some, None, Option}
use Rattle.refusal.specs.declared.Layer.{Layer}
use Rattle.refusal.specs.declared.Layer.TheVariants as layer
use Rattle.refusal.specs.declared.Refusal.{Refusal}
use Rattle.refusal.specs.declared.Refusal.TheVariants.{FrameLength, Trailer, Body, SmallBuffer}
use Rattle.refusal.specs.Numbers.{number_of, layer_of, message_of, position_of}

abbrev pub Tells : Refusal → ℕ → Option Layer → Option ℕ → Option ℕ → Type 0
Tells e number layer message position = (number_of e ≡ number) × (layer_of e ≡ layer) × (message_of e ≡ message) × (position_of e ≡ position)

-- the length of a frame is unfit
abbrev pub LengthFault : Refusal → Type 0
LengthFault e = (e ≡ FrameLength) × Tells e 1 (Some layer.Frame) None None

-- the trailer's field at the position p of the frame is unfit
abbrev pub TrailerFault : ℕ → Refusal → Type 0
TrailerFault p e = (e ≡ Trailer p) × Tells e 2 (Some layer.Frame) None (Some p)

-- in the body of message n the field at the position p of the frame is unfit
abbrev pub BodyFault : ℕ → ℕ → Refusal → Type 0
BodyFault n p e = (e ≡ Body n p) × Tells e 3 (Some layer.Message) (Some n) (Some p)

-- the lent buffer is too short
abbrev pub BufferFault : Refusal → Type 0
BufferFault e = (e ≡ SmallBuffer) × Tells e 8 None None None
