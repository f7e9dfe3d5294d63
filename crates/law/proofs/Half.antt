-- One direction of the link, as an invariant: from the sender's messages to what the receiver booked.
use Rattle.std.proofs.Common.{◌≡◌, ℕ, suc, ◌+◌, ◌-◌, ◌≤◌, Some, Option, IfSome, List, [], ◌∷◌, ◌++◌, length, drop, slice_get, sym, refl, ap, ◌∙◌, arith, rules, length-drop}
use Rattle.std.specs.List.{All}
use Rattle.std.proofs.lemmas.List.{drop-drop, drop-append-le, length_push}
use Rattle.std.proofs.lemmas.List.Elements.{All-weaker}
use Rattle.std.proofs.lemmas.List.Prefix.{front_fits}
use Rattle.law.specs.Link.{App, Frame, message, alone, ack_of, Chan, End, oldest, Heard, silent, declined, acknowledged, accepted, misfit, dropped, Turn, turn}
use Rattle.law.specs.Laws.{Carries, Prefix, Upto}
use Rattle.law.proofs.Lists.{at_more, at_drop, prefix_next, prefix_more}
use Rattle.law.proofs.Channels.{all_posted, all_collected}

pub record Half {M : Type 0} (base : ℕ) (pending issued : List M) (expected : ℕ) (booked : List M) (there back : List (Frame M)) : Type 0 where
  pub some_base : 1 ≤ base
  pub base_in : base ≤ suc (length issued)
  pub pending_is : pending ≡ drop (base - 1) issued
  pub expected_is : expected ≡ suc (length booked)
  pub behind : base ≤ expected
  pub starts : Prefix booked issued
  pub carried : All (Carries issued) there
  pub upto : All (Upto expected) back

abbrev pub Way : {M St : Type 0} → End M St → End M St → Chan M → Chan M → Type 0
Way a b fw bw = Half a.base a.pending a.issued b.expected b.booked fw.waiting bw.waiting

module _ {M : Type 0} where
  -- the number after the last issued one
  pub next_is : {b x : ℕ} {ps is bs : List M} {ws vs : List (Frame M)} → Half b ps is x bs ws vs → b + length ps ≡ suc (length is)
  next_is {b} {is = is} h = omega (arith, ap length h.pending_is, length-drop (b - 1) is, h.some_base, h.base_in)

  pub below_next : {b x : ℕ} {ps is bs : List M} {ws vs : List (Frame M)} → Half b ps is x bs ws vs → x ≤ b + length ps
  below_next {is = is} {bs = bs} h = omega (arith, next_is h, front_fits is bs h.starts.0 (sym h.starts.1), h.expected_is)

  half_frames : {b x : ℕ} {ps is bs : List M} {ws vs ws' vs' : List (Frame M)} → Half b ps is x bs ws vs →
      All (Carries is) ws' → All (Upto x) vs' → Half b ps is x bs ws' vs'
  half_frames h c u = search rules

  half_clear : {b x : ℕ} {ps is bs : List M} {ws vs : List (Frame M)} (k : ℕ) → k ≤ x → Half b ps is x bs ws vs →
      Half (b + (k - b)) (drop (k - b) ps) is x bs ws vs
  half_clear {b} {x} {ps} {is} {bs} k l h = grind (arith, below_next h, next_is h, drop-drop (k - b) (b - 1) is)

  half_book : {b x : ℕ} {ps is bs : List M} {ws vs : List (Frame M)} (m : M) (i : ℕ) → x ≡ suc i → slice_get is i ≡ Some m → Half b ps is x bs ws vs →
      Half b ps is (suc x) (bs ++ (m ∷ [])) ws vs
  half_book {b} {x} {ps} {is} {bs} {ws} {vs} m i e a h =
      grind (arith, length_push bs m, prefix_next bs is m h.starts, All-weaker (Upto x) (Upto (suc x)) (λ f l. omega arith) vs h.upto)

  pub half_issue : {b x : ℕ} {ps is bs : List M} {ws vs : List (Frame M)} (m : M) → Half b ps is x bs ws vs →
      Half b (ps ++ (m ∷ [])) (is ++ (m ∷ [])) x bs ws vs
  half_issue {b} {x} {ps} {is} {bs} {ws} {vs} m h =
      grind (arith, length_push is m, drop-append-le (b - 1) is (m ∷ []), prefix_more bs is (m ∷ []) h.starts, All-weaker (Carries is) (Carries (is ++ (m ∷ []))) carry ws h.carried)
    where
      carry : (f : Frame M) → Carries is f → Carries (is ++ (m ∷ [])) f
      carry (message n k y) c = (c.0, c.1, at_more is (m ∷ []) c.0 y c.2)
      carry (alone k) c = tt

  carries_oldest : (b x : ℕ) (is ps : List M) → 1 ≤ b → ps ≡ drop (b - 1) is → Carries is (oldest b x ps)
  carries_oldest b x is [] l e = tt
  carries_oldest b x is (m ∷ ms) l e = (b - 1, omega arith, at_drop (b - 1) is m (ap (λ ps. slice_get ps 0) (sym e)))

  pub ack_oldest : (b x : ℕ) (ps : List M) → ack_of (oldest b x ps) ≡ x
  ack_oldest b x [] = refl
  ack_oldest b x (m ∷ ms) = refl

module _ {M C St : Type 0} {app : App M C St} where
  -- what the sender hears
  sender_heard : {a a' : End M St} {x : ℕ} {bs : List M} {ws vs : List (Frame M)} {f : Option (Frame M)} → Heard app a f a' → IfSome f (Upto x) →
      Half a.base a.pending a.issued x bs ws vs → Half a'.base a'.pending a'.issued x bs ws vs
  sender_heard silent g h = h
  sender_heard (declined l) g h = h
  sender_heard (acknowledged {k = k} l) g h = half_clear k g h
  sender_heard (accepted {k = k} l e y) g h = half_clear k g h
  sender_heard (misfit l e z) g h = h
  sender_heard (dropped {k = k} l e) g h = half_clear k g h

  -- what the receiver hears
  receiver_heard : {c c' : End M St} {b : ℕ} {ps is : List M} {ws vs : List (Frame M)} {f : Option (Frame M)} → Heard app c f c' → IfSome f (Carries is) →
      Half b ps is c.expected c.booked ws vs → Half b ps is c'.expected c'.booked ws vs
  receiver_heard silent g h = h
  receiver_heard (declined l) g h = h
  receiver_heard (acknowledged l) g h = h
  receiver_heard (accepted {m = m} l e y) g h = half_book m g.0 (sym e ∙ g.1) g.2 h
  receiver_heard (misfit l e z) g h = h
  receiver_heard (dropped l e) g h = h

  pub sender_turn : {a a' : End M St} {fw bw fw' bw' : Chan M} {x : ℕ} {bs : List M} → Turn app a bw fw a' bw' fw' →
      Half a.base a.pending a.issued x bs fw.waiting bw.waiting → Half a'.base a'.pending a'.issued x bs fw'.waiting bw'.waiting
  sender_turn {x = x} (turn {e' = a'} c r p) h =
      let g = all_collected (Upto x) c h.upto in
      let k = sender_heard r g.0 h in
      half_frames k (all_posted (Carries a'.issued) p (carries_oldest a'.base a'.expected a'.issued a'.pending k.some_base k.pending_is) k.carried) g.1

  pub receiver_turn : {c c' : End M St} {fw bw fw' bw' : Chan M} {b : ℕ} {ps is : List M} → Turn app c fw bw c' fw' bw' →
      Half b ps is c.expected c.booked fw.waiting bw.waiting → Half b ps is c'.expected c'.booked fw'.waiting bw'.waiting
  receiver_turn {is = is} (turn {e' = c'} c r p) h =
      let g = all_collected (Carries is) c h.carried in
      let k = receiver_heard r g.0 h in
      half_frames k g.1 (all_posted (Upto c'.expected) p (omega (arith, ack_oldest c'.base c'.expected c'.pending)) k.upto)
