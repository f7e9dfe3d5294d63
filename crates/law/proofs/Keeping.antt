-- What rounds keep and lower; and rounds in which what is to be booked next fits before every turn.
use Rattle.std.proofs.Common.{ℕ, suc}
use Rattle.law.specs.Link.{App, Chan, End, Turn, World, Reached, stepped, secured_turns, pledgor_turns, round, Rounds, done, again}
use Rattle.law.specs.Laws.{Fitting}
use Rattle.law.proofs.Channels.{Spent, spent_same, spent_both}
use Rattle.law.proofs.Turns.{Moved, moves, moved_same, moved_both, spent_in, spent_out}
use Rattle.law.proofs.Runs.{Both, swap, both_turn, Inv}

-- the world seen from the other end
abbrev pub flip : {M St : Type 0} → World M St → World M St
flip w = record { secured = w.pledgor; pledgor = w.secured; forth = w.back; back = w.forth }

-- what rounds keep and lower
pub record Kept {M St : Type 0} (w v : World M St) : Type 0 where
  pub kept_inv : Inv v
  pub forth : Spent w.forth v.forth
  pub back : Spent w.back v.back
  pub secured : Moved w.secured v.secured
  pub pledgor : Moved w.pledgor v.pledgor

module _ {M C St : Type 0} {app : App M C St} where
  pub kept_turn : {a a' b : End M St} {fw fw' bw bw' : Chan M} → Turn app a bw fw a' bw' fw' → Both a b fw bw →
      Kept (record { secured = a; pledgor = b; forth = fw; back = bw }) (record { secured = a'; pledgor = b; forth = fw'; back = bw' })
  kept_turn {b = b} t h = record { kept_inv = both_turn t h; forth = spent_out t; back = spent_in t; secured = moves t; pledgor = moved_same b }

module _ {M St : Type 0} where
  kept_both : {w v u : World M St} → Kept w v → Kept v u → Kept w u
  kept_both k l = record {
    kept_inv = l.kept_inv;
    forth = spent_both k.forth l.forth;
    back = spent_both k.back l.back;
    secured = moved_both k.secured l.secured;
    pledgor = moved_both k.pledgor l.pledgor;
  }

  kept_same : (w : World M St) → Inv w → Kept w w
  kept_same w h = record { kept_inv = h; forth = spent_same w.forth; back = spent_same w.back; secured = moved_same w.secured; pledgor = moved_same w.pledgor }

module _ {M C St : Type 0} {app : App M C St} where
  kept_second : {a b b' : End M St} {fw fw' bw bw' : Chan M} → Turn app b fw bw b' fw' bw' → Both a b fw bw →
      Kept (record { secured = a; pledgor = b; forth = fw; back = bw }) (record { secured = a; pledgor = b'; forth = fw'; back = bw' })
  kept_second {a = a} t h = record { kept_inv = swap (both_turn t (swap h)); forth = spent_in t; back = spent_out t; secured = moved_same a; pledgor = moves t }

  pub kept_pair : {a a' b b' : End M St} {fw fw' fw'' bw bw' bw'' : Chan M} → Turn app a bw fw a' bw' fw' → Turn app b fw' bw' b' fw'' bw'' → Both a b fw bw →
      Kept (record { secured = a; pledgor = b; forth = fw; back = bw }) (record { secured = a'; pledgor = b'; forth = fw''; back = bw'' })
  kept_pair t u h = kept_both (kept_turn t h) (kept_second u (both_turn t h))

-- so many rounds, and before every turn what is to be booked next fits
pub data Steady {M C St : Type 0} (app : App M C St) : ℕ → World M St → World M St → Type 0 where
  rest : {w : World M St} → Steady app 0 w w
  more : {n : ℕ} {s s' p p' : End M St} {a a' a'' b b' b'' : Chan M} {v : World M St} → Turn app s b a s' b' a' → Turn app p a' b' p' a'' b'' →
      Fitting app (record { secured = s; pledgor = p; forth = a; back = b }) → Fitting app (record { secured = s'; pledgor = p; forth = a'; back = b' }) →
      Steady app n (record { secured = s'; pledgor = p'; forth = a''; back = b'' }) v → Steady app (suc n) (record { secured = s; pledgor = p; forth = a; back = b }) v

module _ {M C St : Type 0} {app : App M C St} where
  pub kept_rounds : {n : ℕ} {w v : World M St} → Steady app n w v → Inv w → Kept w v
  kept_rounds {w = w} rest h = kept_same w h
  kept_rounds (more t u f g rs) h = let k = kept_pair t u h in kept_both k (kept_rounds rs k.kept_inv)

  pub fitting_flip : {w : World M St} → Fitting app w → Fitting app (flip w)
  fitting_flip f = record { there_fits = f.back_fits; back_fits = f.there_fits }

  -- rounds of a run whose every world is fit are steady
  pub steady : {s p : St} {n : ℕ} {w v : World M St} → ((w : World M St) → Reached app s p w → Fitting app w) → Reached app s p w → Rounds app n w v → Steady app n w v
  steady f r done = rest
  steady f r (again (round t u) rs) =
      let m = stepped r (secured_turns t) in
      more t u (f _ r) (f _ m) (steady f (stepped m (pledgor_turns u)) rs)
