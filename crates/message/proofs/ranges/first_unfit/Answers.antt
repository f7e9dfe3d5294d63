use Rattle.std.proofs.Common.{◌≡◌, ℕ, Bool, true, false, not, List, [], ◌∷◌, Some, None, Option, Bor, refl, sym, ap, ◌∙◌, rules, tests}
use Rattle.std.specs.List.{find}
use Rattle.std.specs.Option.{option_map}
use Rattle.std.proofs.lemmas.Iterator.{YieldsList-from_slice}
use Rattle.std.proofs.lemmas.Iterator.Search.{find_from_yields_List}
use Rattle.message.specs.Ranges.{first_unfit}
use Rattle.message.proofs.ranges.first_unfit.Goals as goal

found : (fields : List (ℕ × Bool)) → option_map (λ f. f.0) (find (λ f. not f.1) fields) ≡ first_unfit fields
found [] = refl
found ((p, true) ∷ fields) = found fields
found ((p, false) ∷ fields) = refl

by_find : (fields : List (ℕ × Bool)) (o r : Option (Bor (ℕ × Bool))) → o ≡ r → option_map (λ f. f.now) o ≡ find (λ f. not f.1) fields → option_map (λ f. f.now.0) r ≡ first_unfit fields
by_find fields o None e f = ap (option_map (λ f. f.0)) (sym (ap (option_map (λ f. f.now)) e) ∙ f) ∙ found fields
by_find fields o (Some x) e f = ap (option_map (λ f. f.0)) (sym (ap (option_map (λ f. f.now)) e) ∙ f) ∙ found fields

pub returns-in_err-position : goal.returns-in_err-position
returns-in_err-position c =
    c.from_residual.ensures
    ∙ by_find c.args.fields.now c.find.result None c.in_err-position.was
    (find_from_yields_List (λ f. not f.1) _ _ c.find.result c.find.ensures.ran (YieldsList-from_slice c.args.fields.now cc) (λ x b q k. search (rules, tests)))

pub returns : goal.returns
returns c =
    by_find c.args.fields.now c.find.result (Some c.in_ok-position.field-0) c.in_ok-position.was
    (find_from_yields_List (λ f. not f.1) _ _ c.find.result c.find.ensures.ran (YieldsList-from_slice c.args.fields.now cc) (λ x b q k. search (rules, tests)))
