-- The bytes of a message: its kind, then its fields.
use Rattle.std.specs.Prelude.{◌≡◌, ℕ, ◌^◌, ◌<◌, List, [], ◌∷◌, ◌++◌, length, FitsSigned, slice_index}
use Rattle.std.specs.Int.{w64}
use Rattle.std.proofs.Common.{of_z}
use Rattle.octets.specs.Numbers.{bytes_of}
use Rattle.message.specs.declared.Message.{Message}
use Rattle.message.specs.declared.Message.TheVariants.{Quiet, Call, Offer, Agree, Dispute, Resolve, Delivery, Substitute, Ask, Return, Decline, Satisfied, Release}
use Rattle.message.specs.Kinds.{kind_of}

-- the fields of a message
abbrev pub fields_of : Message → List ℕ
fields_of (Quiet day exposure) = bytes_of 4 day ++ bytes_of 8 (of_z w64 exposure)
fields_of (Call day exposure amount) = bytes_of 4 day ++ (bytes_of 8 (of_z w64 exposure) ++ bytes_of 8 amount)
fields_of (Offer day exposure amount) = bytes_of 4 day ++ (bytes_of 8 (of_z w64 exposure) ++ bytes_of 8 amount)
fields_of (Agree day) = bytes_of 4 day
fields_of (Dispute day amount) = bytes_of 4 day ++ bytes_of 8 amount
fields_of (Resolve day exposure amount) = bytes_of 4 day ++ (bytes_of 8 (of_z w64 exposure) ++ bytes_of 8 amount)
fields_of (Delivery day lot class face) = bytes_of 4 day ++ (lot ∷ (class ∷ bytes_of 8 face))
fields_of (Substitute lot class face old) = lot ∷ (class ∷ (bytes_of 8 face ++ (old ∷ [])))
fields_of (Ask day lot) = bytes_of 4 day ++ (lot ∷ [])
fields_of (Return lot) = lot ∷ []
fields_of (Decline lot) = lot ∷ []
fields_of (Satisfied day) = bytes_of 4 day
fields_of (Release day) = bytes_of 4 day

-- the body of a message
abbrev pub body_of : Message → List ℕ
body_of m = kind_of m ∷ fields_of m

-- each field is within the bytes that it takes, so that the body loses nothing of it
abbrev pub Typed : Message → Type 0
Typed (Quiet day exposure) = (day < 2 ^ 32) × FitsSigned w64 exposure
Typed (Call day exposure amount) = (day < 2 ^ 32) × FitsSigned w64 exposure × (amount < 2 ^ 64)
Typed (Offer day exposure amount) = (day < 2 ^ 32) × FitsSigned w64 exposure × (amount < 2 ^ 64)
Typed (Agree day) = day < 2 ^ 32
Typed (Dispute day amount) = (day < 2 ^ 32) × (amount < 2 ^ 64)
Typed (Resolve day exposure amount) = (day < 2 ^ 32) × FitsSigned w64 exposure × (amount < 2 ^ 64)
Typed (Delivery day lot class face) = (day < 2 ^ 32) × (lot < 2 ^ 8) × (class < 2 ^ 8) × (face < 2 ^ 64)
Typed (Substitute lot class face old) = (lot < 2 ^ 8) × (class < 2 ^ 8) × (face < 2 ^ 64) × (old < 2 ^ 8)
Typed (Ask day lot) = (day < 2 ^ 32) × (lot < 2 ^ 8)
Typed (Return lot) = lot < 2 ^ 8
Typed (Decline lot) = lot < 2 ^ 8
Typed (Satisfied day) = day < 2 ^ 32
Typed (Release day) = day < 2 ^ 32

-- how many bytes the fields of each kind take, 0 where there is no such kind
abbrev pub field_length : ℕ → ℕ
field_length k = slice_index (0 ∷ 12 ∷ 20 ∷ 20 ∷ 4 ∷ 12 ∷ 20 ∷ 14 ∷ 11 ∷ 5 ∷ 1 ∷ 1 ∷ 4 ∷ 0 ∷ 4 ∷ []) k

-- the body is empty, of an unknown kind, or as long as its kind is not
abbrev pub Malformed : List ℕ → Type 0
Malformed [] = Unit {0}
Malformed (k ∷ fields) = (0 < field_length k) × (length fields ≡ field_length k) → ⊥
