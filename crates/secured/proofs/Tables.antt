-- The table of lots: what a written entry does to its range and to V.
use Rattle.std.proofs.Common.{◌≡◌, ℕ, zero, suc, ◌+◌, ◌<◌, Bool, true, false, leb, List, [], ◌∷◌, length, get_or, set, refl, ap, ◌∙◌, length-set}
use borrow.Author.Tests.{clash}
use Rattle.std.proofs.lemmas.List.Sums.{sum_by-set}
use Rattle.std.proofs.lemmas.Bool.{and_parts}
use Rattle.std.specs.List.{list_all}
use Rattle.annex.proofs.Tests.{every_get_d}
use Rattle.amounts.specs.declared.lots.SecuredLot.{SecuredLot}
use Rattle.amounts.specs.declared.lots.SecuredLot.TheVariants.{Absent, Held, OwedBack, DeclineOwed}
use Rattle.amounts.specs.Lots.{counted_fits, counts_at_secured, table_fits}
use Rattle.amounts.specs.Value.{adds}
use Rattle.secured.specs.declared.state.SecuredState.{SecuredState}
use Rattle.secured.specs.Bookings.{owe}
use Rattle.secured.specs.Calls.{with_lot}
use Rattle.secured.specs.Lots.{is_absent, is_held, lot_at, terms_of, value_now, worth_at}

-- a written element that passes leaves a list that passes
pub every_set : {A : Type 0} (test : A → Bool) (xs : List A) (i : ℕ) (x : A) → list_all test xs ≡ true → test x ≡ true → list_all test (set xs i x) ≡ true
every_set test [] i x e h = refl
every_set test (y ∷ ys) zero x e h = rw h (and_parts (test y) (list_all test ys) e).1
every_set test (y ∷ ys) (suc i) x e h = let p = and_parts (test y) (list_all test ys) e in let q = p.0 in rw q (every_set test ys i x p.1 h)

-- the entry is empty or its lot is in range
abbrev pub entry_fits : SecuredLot → Bool
entry_fits x = counted_fits (counts_at_secured x)

pub table_set : (ls : List SecuredLot) (l : ℕ) (x : SecuredLot) → table_fits counts_at_secured ls ≡ true → entry_fits x ≡ true → table_fits counts_at_secured (set ls l x) ≡ true
table_set ls l x t h =
    let p = and_parts (leb (length ls) 32) (list_all entry_fits ls) t in
    let a : leb (length (set ls l x)) 32 ≡ true = ap (λ n. leb n 32) (length-set ls l x) ∙ p.0 in
    rw a (every_set entry_fits ls l x p.1 h)

pub entry_at : (ls : List SecuredLot) (l : ℕ) → table_fits counts_at_secured ls ≡ true → entry_fits (get_or ls l Absent) ≡ true
entry_at ls l t = every_get_d entry_fits Absent refl ls (and_parts (leb (length ls) 32) (list_all entry_fits ls) t).1 l

pub owe_fits : (b : Bool) (x : SecuredLot) → entry_fits x ≡ true → entry_fits (owe b x) ≡ true
owe_fits b Absent h = refl
owe_fits true (Held l) h = refl
owe_fits false (Held l) h = h
owe_fits b (OwedBack l) h = refl
owe_fits b (DeclineOwed l) h = h

-- what an entry adds to V by the row last notified
abbrev pub adds_now : SecuredState → SecuredLot → ℕ
adds_now s x = adds (terms_of s) s.row (counts_at_secured x)

pub adds_absent : (s : SecuredState) (x : SecuredLot) → is_absent x ≡ true → adds_now s x ≡ 0
adds_absent s Absent e = refl
adds_absent s (Held l) e = absurd (clash e)
adds_absent s (OwedBack l) e = refl
adds_absent s (DeclineOwed l) e = absurd (clash e)

pub adds_held : (s : SecuredState) (x : SecuredLot) → is_held x ≡ true → adds_now s x ≡ worth_at s x
adds_held s Absent e = refl
adds_held s (Held l) e = refl
adds_held s (OwedBack l) e = absurd (clash e)
adds_held s (DeclineOwed l) e = refl

pub adds_owed : (s : SecuredState) (x : SecuredLot) → is_held x ≡ true → (adds_now s (owe true x) ≡ 0) × (adds_now s (owe false x) ≡ worth_at s x)
adds_owed s Absent e = (refl, refl)
adds_owed s (Held l) e = (refl, refl)
adds_owed s (OwedBack l) e = absurd (clash e)
adds_owed s (DeclineOwed l) e = absurd (clash e)

pub absent_held : (x : SecuredLot) → is_absent x ≡ true → is_held x ≡ true → ⊥
absent_held Absent e g = clash g
absent_held (Held l) e g = clash e
absent_held (OwedBack l) e g = clash e
absent_held (DeclineOwed l) e g = clash e

-- V when one entry is written
pub value_set : (s : SecuredState) (l : ℕ) (x : SecuredLot) → l < length s.lots → value_now (with_lot s l x) + adds_now s (lot_at s l) ≡ value_now s + adds_now s x
value_set s l x i = sum_by-set (adds_now s) s.lots l x Absent i
