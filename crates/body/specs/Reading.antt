-- What reading a body gives.
use Rattle.std.specs.Prelude.{◌≡◌, ℕ, ◌⊎◌, List, Some, None, Ok, Err, Option, Result}
use Rattle.refusal.specs.declared.Refusal.{Refusal}
use Rattle.message.specs.declared.Message.{Message}
use Rattle.message.specs.Ranges.{unfit_of}
use Rattle.message.specs.Bodies.{body_of, Typed, Malformed}
use Rattle.body.specs.Faults.{BodyFault}

-- the message of a body, its ranges aside
abbrev pub Parsed : List ℕ → Option Message → Type 0
Parsed body None = Malformed body
Parsed body (Some m) = (body ≡ body_of m) × Typed m

-- why a body is not read, and the position of what is unfit: 0 for its kind and length, else the first unfit field
abbrev pub Unread : List ℕ → ℕ → Type 0
Unread body p = (Malformed body × (p ≡ 0)) ⊎ ((m : Message) × (body ≡ body_of m) × Typed m × (unfit_of m ≡ Some p))

-- what reading the body of message n gives
abbrev pub ReadsMessage : ℕ → List ℕ → Result Message Refusal → Type 0
ReadsMessage n body (Ok m) = (body ≡ body_of m) × (unfit_of m ≡ None)
ReadsMessage n body (Err e) = (p : ℕ) × Unread body p × BodyFault n p e
