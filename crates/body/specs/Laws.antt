-- Reading a body has one answer, and it undoes writing.
use Rattle.std.specs.Prelude.{◌≡◌, ℕ, List, None, Ok, Result}
use Rattle.refusal.specs.declared.Refusal.{Refusal}
use Rattle.message.specs.declared.Message.{Message}
use Rattle.message.specs.Ranges.{unfit_of}
use Rattle.message.specs.Bodies.{body_of, Typed}
use Rattle.body.specs.Reading.{ReadsMessage}

-- any bytes have one answer at most, refusals included
abbrev pub BodiesReadOnce : Type 0
BodiesReadOnce = (n : ℕ) (body : List ℕ) (r s : Result Message Refusal) → ReadsMessage n body r → ReadsMessage n body s → r ≡ s

-- the body of a message in its ranges reads as that message
abbrev pub BodiesReadBack : Type 0
BodiesReadBack = (n : ℕ) (m : Message) (r : Result Message Refusal) → unfit_of m ≡ None → ReadsMessage n (body_of m) r → r ≡ Ok m

-- different messages have different bodies
abbrev pub BodiesDiffer : Type 0
BodiesDiffer = (m k : Message) → Typed m → Typed k → body_of m ≡ body_of k → m ≡ k
