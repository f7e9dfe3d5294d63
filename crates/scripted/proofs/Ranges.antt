-- A carrier just opened has all of its script still to come.
use Rattle.std.proofs.Common.{◌≡◌, ℕ, true, cond, ltb, leb, List, [], ◌∷◌, length, refl, ap, arith, lt-ltb, leb-true}
use Rattle.std.specs.List.{list_all}
use Rattle.std.proofs.lemmas.List.Sums.{sum_by-cons}
use Rattle.std.proofs.lemmas.Bool.{and_parts}
use Rattle.scripted.specs.declared.script.Entry.{Entry}
use Rattle.scripted.specs.Script.{entry_fits, unused}
use Rattle.scripted.specs.Opens.{opens}

unused_all : (es : List Entry) → list_all entry_fits es ≡ true → unused 0 es ≡ length es
unused_all [] h = refl
unused_all (e ∷ es) h =
    let p = and_parts (entry_fits e) (list_all entry_fits es) h in
    let q = and_parts (leb 1 e.count) _ p.0 in
    let l = lt-ltb 0 e.count (omega (arith, leb-true 1 e.count q.0)) in
    omega (arith, sum_by-cons (λ e. cond (ltb 0 e.count) 1 0) e es, ap {B = ℕ} (λ b. cond b 1 0) l, unused_all es p.1)

pub opened : (places : ℕ) (es : List Entry) → opens places es ≡ true → unused 0 es ≡ length es
opened places es h =
    let p = and_parts (leb 1 places) _ h in
    let q = and_parts (leb places 16) _ p.1 in
    let r = and_parts (leb (length es) 64) (list_all entry_fits es) q.1 in
    unused_all es r.1
