-- A relation that issuing and booking keep over two queues holds over every run of the link.
use Rattle.std.proofs.Common.{◌≡◌, suc, T, Some, Option, IfSome, List, [], ◌∷◌, ◌++◌, length, drop, slice_get, sym, subst, arith}
use Rattle.std.proofs.lemmas.List.{drop-append-le, length_push}
use Rattle.std.proofs.lemmas.List.Prefix.{front_fits}
use Rattle.law.specs.Link.{App, Frame, Chan, End, Issued, issue, Heard, silent, declined, acknowledged, accepted, misfit, dropped, Turn, turn, World, Step, refuses, secured_issues, pledgor_issues, secured_turns, pledgor_turns, Reached, opened, stepped}
use Rattle.law.specs.Laws.{Between, Carries, Fitting, Joint, QueuesKeepARelation}
use Rattle.law.proofs.Lists.{at_cons}
use Rattle.law.proofs.Channels.{all_collected}
use Rattle.law.proofs.Runs.{Both, swap, Inv, inv}

module _ {M C St : Type 0} {app : App M C St} where
  joint_flip : {J : St → St → List M → List M → Type 0} → Joint app J → Joint app (λ a b xs ys. J b a ys xs)
  joint_flip j = record {
    there_issue = λ c m h t. j.back_issue c m h t;
    back_issue = λ c m h t. j.there_issue c m h t;
    there_fit = λ m h. j.back_fit m h;
    back_fit = λ m h. j.there_fit m h;
    there_book = λ m h. j.back_book m h;
    back_book = λ m h. j.there_book m h;
  }

module _ {M C St : Type 0} {app : App M C St} (J : St → St → List M → List M → Type 0) (j : Joint app J) where
  between_heard : (b : End M St) {a a' : End M St} {x : Option (Frame M)} → Heard app a x a' → IfSome x (Carries b.issued) → a.expected ≡ suc (length a.booked) →
      Between J a b → Between J a' b
  between_heard b silent g e h = h
  between_heard b (declined l) g e h = h
  between_heard b (acknowledged l) g e h = h
  between_heard b (misfit l q z) g e h = h
  between_heard b (dropped l q) g e h = h
  between_heard b {a} (accepted {m = m} l q y) g e h =
      let k = length a.booked in
      let at : slice_get b.issued k ≡ Some m = subst (λ i. slice_get b.issued i ≡ Some m) (omega (arith, g.1)) g.2 in
      let n : suc k ≡ length (a.booked ++ (m ∷ [])) = omega (arith, length_push a.booked m) in
      let h₁ = subst (λ ys. J a.state b.state (drop (length b.booked) a.issued) ys) (at_cons b.issued k m at) h in
      subst (λ i. J (app.books a.state m) b.state (drop (length b.booked) a.issued) (drop i b.issued)) n (j.back_book m h₁)

  between_turn : {a a' b : End M St} {fw fw' bw bw' : Chan M} → Turn app a bw fw a' bw' fw' → Both a b fw bw → Between J a b → Between J a' b
  between_turn {b = b} (turn c r p) h q = between_heard b r (all_collected (Carries b.issued) c h.return.carried).0 h.return.expected_is q

  between_issue : {a a' b : End M St} {fw bw : Chan M} → Issued app a a' → Both a b fw bw → Between J a b → Between J a' b
  between_issue {b = b} (issue {e = a} {s = s} c m l u t) h q =
      subst (λ xs. J s b.state xs (drop (length a.booked) b.issued))
      (sym (drop-append-le (length b.booked) a.issued (m ∷ []) (front_fits a.issued b.booked h.go.starts.0 (sym h.go.starts.1))))
      (j.there_issue c m q t)

module _ {M C St : Type 0} {app : App M C St} (J : St → St → List M → List M → Type 0) (j : Joint app J) where
  between_step : {w v : World M St} → Step app w v → Inv w → Between J w.secured w.pledgor → Between J v.secured v.pledgor
  between_step refuses h q = q
  between_step (secured_issues i) h q = between_issue J j i h q
  between_step (pledgor_issues i) h q = between_issue (λ a b xs ys. J b a ys xs) (joint_flip j) i (swap h) q
  between_step (secured_turns t) h q = between_turn J j t h q
  between_step (pledgor_turns t) h q = between_turn (λ a b xs ys. J b a ys xs) (joint_flip j) t (swap h) q

  pub between : {s p : St} {w : World M St} → J s p [] [] → Reached app s p w → Between J w.secured w.pledgor
  between h (opened l r) = h
  between h (stepped r t) = between_step t (inv r) (between h r)

  pub fitting : (w : World M St) → Between J w.secured w.pledgor → Fitting app w
  fitting w h = record {
    there_fits = λ m a. j.there_fit m (subst (λ xs. J w.secured.state w.pledgor.state xs (drop (length w.secured.booked) w.pledgor.issued)) (at_cons w.secured.issued (length w.pledgor.booked) m a) h);
    back_fits = λ m a. j.back_fit m (subst (λ ys. J w.secured.state w.pledgor.state (drop (length w.pledgor.booked) w.secured.issued) ys) (at_cons w.pledgor.issued (length w.secured.booked) m a) h);
  }

pub joins : (M C St : Type 0) → QueuesKeepARelation M C St
joins M C St app j s p k h w r =
    let b = between (λ a b xs ys. T (j a b xs ys)) k h r in
    (b, fitting (λ a b xs ys. T (j a b xs ys)) k w b)
