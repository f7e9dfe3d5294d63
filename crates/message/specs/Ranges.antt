-- The ranges of the fields, and the first field of a message that is out of its own.
use Rattle.std.specs.Prelude.{ℕ, Bool, true, false, ◌&&◌, ℤ, pos, neg_ℤ, Some, None, Option, List, [], ◌∷◌, int_le, nat_le}
use Rattle.message.specs.declared.Message.{Message}
use Rattle.message.specs.declared.Message.TheVariants.{Quiet, Call, Offer, Agree, Dispute, Resolve, Delivery, Substitute, Ask, Return, Decline, Satisfied, Release}

abbrev pub within : ℕ → ℕ → ℕ → Bool
within low high n = nat_le low n && nat_le n high

abbrev pub day_fits : ℕ → Bool
day_fits n = within 1 1000000000 n

abbrev pub exposure_fits : ℤ → Bool
exposure_fits z = int_le (neg_ℤ (pos 10000000000000)) z && int_le z (pos 10000000000000)

-- an amount, of a kind that allows it from `least` on
abbrev pub amount_fits : ℕ → ℕ → Bool
amount_fits least n = within least 20000000000000 n

abbrev pub lot_fits : ℕ → Bool
lot_fits n = within 0 31 n

abbrev pub class_fits : ℕ → Bool
class_fits n = within 0 7 n

abbrev pub face_fits : ℕ → Bool
face_fits n = within 1 10000000000 n

-- the position p, unless the test holds; then what is found further on
abbrev pub unless : Bool → ℕ → Option ℕ → Option ℕ
unless true p further = further
unless false p further = Some p

-- the first position whose test does not hold
abbrev pub first_unfit : List (ℕ × Bool) → Option ℕ
first_unfit [] = None
first_unfit (field ∷ fields) = unless field.1 field.0 (first_unfit fields)

abbrev pub unfit_day : ℕ → Option ℕ
unfit_day day = unless (day_fits day) 1 None

abbrev pub unfit_lot : ℕ → Option ℕ
unfit_lot lot = unless (lot_fits lot) 1 None

abbrev pub unfit_money : ℕ → ℤ → ℕ → ℕ → Option ℕ
unfit_money day exposure least amount = unless (day_fits day) 1 (unless (exposure_fits exposure) 5 (unless (amount_fits least amount) 13 None))

-- the position in the body of the first field that is out of its range
abbrev pub unfit_of : Message → Option ℕ
unfit_of (Quiet day exposure) = unless (day_fits day) 1 (unless (exposure_fits exposure) 5 None)
unfit_of (Call day exposure amount) = unfit_money day exposure 1 amount
unfit_of (Offer day exposure amount) = unfit_money day exposure 1 amount
unfit_of (Agree day) = unfit_day day
unfit_of (Dispute day amount) = unless (day_fits day) 1 (unless (amount_fits 0 amount) 5 None)
unfit_of (Resolve day exposure amount) = unfit_money day exposure 0 amount
unfit_of (Delivery day lot class face) = unless (day_fits day) 1 (unless (lot_fits lot) 5 (unless (class_fits class) 6 (unless (face_fits face) 7 None)))
unfit_of (Substitute lot class face old) = unless (lot_fits lot) 1 (unless (class_fits class) 2 (unless (face_fits face) 3 (unless (lot_fits old) 11 None)))
unfit_of (Ask day lot) = unless (day_fits day) 1 (unless (lot_fits lot) 5 None)
unfit_of (Return lot) = unfit_lot lot
unfit_of (Decline lot) = unfit_lot lot
unfit_of (Satisfied day) = unfit_day day
unfit_of (Release day) = unfit_day day
