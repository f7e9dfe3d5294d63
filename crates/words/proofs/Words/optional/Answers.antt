use Rattle.std.proofs.Common.{◌≡◌, Some, None, Option, option_map, ap, MatchOption, IsSomeAnd}
use Rattle.words.proofs.Words.optional.Goals as goal

-- what `map` answers, as an equation
mapped : {A : Type 0} (o : Option A) (r : Option (Option A)) → MatchOption o (r ≡ None) (λ x. IsSomeAnd r (λ y. y ≡ Some x)) → r ≡ option_map Some o
mapped None r h = h
mapped (Some x) (Some y) h = ap Some h
mapped (Some x) None h = absurd h

pub returns-in_default : goal.returns-in_default
returns-in_default g c = record {
  word = Some c.in_ok-number.number;
  taken = c.in_ok-number.ensures.steps;
  read = record {
    none = λ dash. absurd (c.in_default.not-text dash);
    some = λ _. (c.ok.result, (c.parse.result, c.parse.ensures.value, c.ok.ensures.value), mapped c.ok.result c.map.result c.map.ensures.cases);
  };
}
