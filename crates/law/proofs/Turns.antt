-- What a turn keeps of its end and of its two channels, whatever it collects and posts.
use Rattle.std.proofs.Common.{◌≡◌, ℕ, ◌-◌, ◌≤◌, Option, length, arith, rules}
use Rattle.std.proofs.lemmas.List.{length-drop}
use Rattle.law.specs.Link.{App, Frame, Chan, End, clear, Heard, silent, declined, acknowledged, accepted, misfit, dropped, Turn, turn}
use Rattle.law.proofs.Channels.{Spent, spent_posted, spent_collected}

-- what becomes of an end that issues nothing
pub record Moved {M St : Type 0} (e e' : End M St) : Type 0 where
  pub base : e.base ≤ e'.base
  pub fewer : length e'.pending ≤ length e.pending
  pub issued : e'.issued ≡ e.issued

module _ {M St : Type 0} where
  pub moved_same : (e : End M St) → Moved e e
  moved_same e = search rules

  pub moved_both : {e e' e'' : End M St} → Moved e e' → Moved e' e'' → Moved e e''
  moved_both m n = grind arith

  moved_clear : (k : ℕ) (e : End M St) → Moved e (clear k e)
  moved_clear k e = grind (arith, length-drop (k - e.base) e.pending)

module _ {M C St : Type 0} {app : App M C St} where
  pub moved_heard : {e e' : End M St} {x : Option (Frame M)} → Heard app e x e' → Moved e e'
  moved_heard (silent {e = e}) = moved_same e
  moved_heard (declined {e = e} l) = moved_same e
  moved_heard (acknowledged {e = e} {k = k} l) = moved_clear k e
  moved_heard (accepted {e = e} {k = k} l q y) = search (rules, moved_clear k e)
  moved_heard (misfit {e = e} l q z) = moved_same e
  moved_heard (dropped {e = e} {k = k} l q) = moved_clear k e

  pub moves : {e e' : End M St} {i i' o o' : Chan M} → Turn app e i o e' i' o' → Moved e e'
  moves (turn c r p) = moved_heard r

  pub spent_in : {e e' : End M St} {i i' o o' : Chan M} → Turn app e i o e' i' o' → Spent i i'
  spent_in (turn c r p) = spent_collected c

  pub spent_out : {e e' : End M St} {i i' o o' : Chan M} → Turn app e i o e' i' o' → Spent o o'
  spent_out (turn c r p) = spent_posted p
