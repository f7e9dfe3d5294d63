-- The invariant of both directions together, over every step of a run; and what it says of the lists.
use Rattle.std.proofs.Common.{◌≡◌, ℕ, ◌≤◌, List, [], length, refl, ap, arith}
use Rattle.std.proofs.lemmas.List.{length_push}
use Rattle.std.proofs.lemmas.List.Elements.{All-nil}
use Rattle.law.specs.Link.{App, Frame, Chan, End, Issued, issue, Turn, World, Step, refuses, secured_issues, pledgor_issues, secured_turns, pledgor_turns, Reached, opened, stepped, window}
use Rattle.law.specs.Laws.{BookingsBeginWhatWasIssued, Carries, Upto}
use Rattle.law.proofs.Lists.{prefix_all}
use Rattle.law.proofs.Channels.{Fit}
use Rattle.law.proofs.Half.{Half, Way, next_is, half_issue, sender_turn, receiver_turn}
use Rattle.law.proofs.Turns.{moves, spent_in, spent_out}

pub record Both {M St : Type 0} (a b : End M St) (fw bw : Chan M) : Type 0 where
  pub go : Way a b fw bw
  pub return : Way b a bw fw
  pub go_fit : Fit fw
  pub return_fit : Fit bw
  pub few : length a.pending ≤ window
  pub few_back : length b.pending ≤ window

module _ {M St : Type 0} where
  pub swap : {a b : End M St} {fw bw : Chan M} → Both a b fw bw → Both b a bw fw
  swap h = record { go = h.return; return = h.go; go_fit = h.return_fit; return_fit = h.go_fit; few = h.few_back; few_back = h.few }

module _ {M C St : Type 0} {app : App M C St} where
  pub both_turn : {a a' b : End M St} {fw bw fw' bw' : Chan M} → Turn app a bw fw a' bw' fw' → Both a b fw bw → Both a' b fw' bw'
  both_turn t h = record {
    go = sender_turn t h.go;
    return = receiver_turn t h.return;
    go_fit = (spent_out t).fit h.go_fit;
    return_fit = (spent_in t).fit h.return_fit;
    few = omega (arith, (moves t).fewer, h.few);
    few_back = h.few_back;
  }

  both_issue : {a a' b : End M St} {fw bw : Chan M} → Issued app a a' → Both a b fw bw → Both a' b fw bw
  both_issue (issue {e = e} c m l u y) h = record {
    go = half_issue m h.go;
    return = h.return;
    go_fit = h.go_fit;
    return_fit = h.return_fit;
    few = omega (arith, length_push e.pending m);
    few_back = h.few_back;
  }

fresh_way : {M : Type 0} → Half {M = M} 1 [] [] 1 [] [] []
fresh_way = record { some_base = omega arith; base_in = omega arith; pending_is = refl; expected_is = refl; behind = omega arith; starts = ([], refl); carried = All-nil (Carries []); upto = All-nil (Upto 1) }

abbrev pub Inv : {M St : Type 0} → World M St → Type 0
Inv w = Both w.secured w.pledgor w.forth w.back

module _ {M C St : Type 0} {app : App M C St} where
  inv_step : {w v : World M St} → Step app w v → Inv w → Inv v
  inv_step refuses h = h
  inv_step (secured_issues i) h = both_issue i h
  inv_step (pledgor_issues i) h = swap (both_issue i (swap h))
  inv_step (secured_turns t) h = both_turn t h
  inv_step (pledgor_turns t) h = swap (both_turn t (swap h))

  pub inv : {s p : St} {w : World M St} → Reached app s p w → Inv w
  inv (opened l r) = record { go = fresh_way; return = fresh_way; go_fit = record { some_place = l; fits = omega arith }; return_fit = record { some_place = r; fits = omega arith }; few = omega arith; few_back = omega arith }
  inv (stepped r s) = inv_step s (inv r)

module _ {M : Type 0} where
  -- nothing unacknowledged: all is booked
  all_booked : {b x : ℕ} {ps is bs : List M} {ws vs : List (Frame M)} → Half b ps is x bs ws vs → ps ≡ [] → bs ≡ is
  all_booked {is = is} {bs = bs} h e = prefix_all bs is h.starts (omega (arith, next_is h, ap length e, h.behind, h.expected_is))

pub agrees : (M C St : Type 0) → BookingsBeginWhatWasIssued M C St
agrees M C St app s p w r = let h = inv r in record {
  there_prefix = h.go.starts;
  back_prefix = h.return.starts;
  there_all = λ e. all_booked h.go e.0;
  back_all = λ e. all_booked h.return e.1;
}
