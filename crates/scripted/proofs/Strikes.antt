-- A script's entries are fault acts, and each call pays for its own.
use Rattle.std.proofs.Common.{◌≡◌, ℕ, ◌+◌, ◌-◌, ◌<◌, ◌≤◌, Bool, true, false, cond, count_by, slice_get, eqb, lt-ltb, ltb, List, [], ◌∷◌, ◌++◌, map, length, get_or, drop, Some, None, vec_items, Option, sym, refl, ap, ◌∙◌, subst, arith, length-append, rules, ltb-false, ltb-true}
use Rattle.std.specs.List.{insert, remove}
use Rattle.std.proofs.lemmas.List.Edits.{length-remove}
use Rattle.std.proofs.lemmas.List.{drop_all, get_or_default, map-append, take_all}
use Rattle.std.proofs.lemmas.List.Sums.{sum_by-cons}
use Rattle.std.proofs.lemmas.Bool.Decides.{nat_tests}
use Rattle.carrier.specs.declared.frame.Frame.{Frame}
use Rattle.carrier.specs.Held.{held}
use Rattle.carrier.specs.Means.{Act, Acts, copy, done, Fit, lose, move}
use Rattle.carrier.specs.Rules.{Gathered, Joined, Taken}
use Rattle.scripted.specs.declared.script.Entry.{Entry}
use Rattle.scripted.specs.declared.fault.Fault.{Fault}
use Rattle.scripted.specs.declared.fault.Fault.TheVariants.{Lose, Repeat, Move}
use Rattle.scripted.specs.declared.scripted.Scripted.{Scripted}
use Rattle.scripted.specs.Script.{acted, by_fault, item_at, play, unused}
use Rattle.scripted.specs.ScriptedMeans.{state_of}
use Rattle.scripted.specs.State.{counted, first_gone, means, State}
use Rattle.scripted.proofs.Plays.{item_at_lem, map_play, past}

-- some acts, at most n, that lead from one list to the other
pub record Did (places : ℕ) (ws vs : List (List ℕ)) (n : ℕ) : Type 0 where
  pub acts : List Act
  pub waits : Acts places acts ws vs
  pub few : length acts ≤ n

insert_end : (ws : List (List ℕ)) (n : ℕ) (f : List ℕ) → length ws ≡ n → insert ws n f ≡ ws ++ (f ∷ [])
insert_end ws n f e =
    ap (λ (z : List (List ℕ)). z ++ (f ∷ drop n ws)) (take_all n ws (omega arith)) ∙ ap (λ (z : List (List ℕ)). ws ++ (f ∷ z)) (drop_all n ws (omega arith))

item : (ws : List (List ℕ)) (i : ℕ) → i < length ws → item_at ws i ≡ get_or ws i [] ∷ []
item ws i h = item_at_lem ws i (get_or ws i []) h (get_or_default ws i [] (get_or ws i []) h)

inside : (k : Fault) (places i : ℕ) (ws : List (List ℕ)) → i < length ws → Did places ws (by_fault k places i ws) 1
inside Lose places i ws h = record { acts = lose i ∷ []; waits = (h, refl); few = omega arith }
inside Repeat places i ws h = go (ltb (length ws) places) refl
  where
    go : (b : Bool) → ltb (length ws) places ≡ b → Did places ws (cond (ltb (length ws) places) (ws ++ item_at ws i) ws) 1
    go true e = rw e (record { acts = copy i (length ws) ∷ []; waits = ((h, omega arith, ltb-true (length ws) places e), ap (λ (z : List (List ℕ)). ws ++ z) (item ws i h) ∙ sym (insert_end ws (length ws) (get_or ws i []) refl)); few = omega arith })
    go false e = rw e (record { acts = []; waits = refl; few = omega arith })
inside Move places i ws h =
    let r = length-remove ws i h in
    record { acts = move i (length ws - 1) ∷ []; waits = ((h, omega arith), ap (λ (z : List (List ℕ)). remove ws i ++ z) (item ws i h) ∙ sym (insert_end (remove ws i) (length ws - 1) (get_or ws i []) (omega (arith, r)))); few = omega arith }

one : (k : Fault) (places i : ℕ) (ws : List (List ℕ)) → Did places ws (by_fault k places i ws) 1
one k places i ws = go (ltb i (length ws)) refl
  where
    go : (b : Bool) → ltb i (length ws) ≡ b → Did places ws (by_fault k places i ws) 1
    go true e = inside k places i ws (ltb-true i (length ws) e)
    go false e = record { acts = []; waits = sym (past k places i ws (ltb-false i (length ws) e)); few = omega arith }

joined : (places : ℕ) (ps qs : List Act) (ws vs us : List (List ℕ)) → Acts places ps ws vs → Acts places qs vs us → Acts places (ps ++ qs) ws us
joined places [] qs ws vs us p q = subst (λ (z : List (List ℕ)). Acts places qs z us) p q
joined places (a ∷ ps) qs ws vs us p q = (p.0, joined places ps qs (done a ws) vs us p.1 q)

both : {places : ℕ} {ws vs us : List (List ℕ)} {m n : ℕ} (k : ℕ) → Did places ws vs m → Did places vs us n → m + n ≤ k → Did places ws us k
both {places} {ws} {vs} {us} k a b h = record { acts = a.acts ++ b.acts; waits = joined places a.acts b.acts ws vs us a.waits b.waits; few = omega (arith, length-append a.acts b.acts, a.few, b.few) }

-- how many entries a call has
abbrev pub same : ℕ → List Entry → ℕ
same count es = count_by (λ e. eqb e.count count) es

all : (places count : ℕ) (es : List Entry) (ws : List (List ℕ)) → Did places ws (play places count es ws) (same count es)
all places count [] ws = record { acts = []; waits = refl; few = omega arith }
all places count (e ∷ es) ws =
    subst (Did places ws (play places count (e ∷ es) ws)) (sym (sum_by-cons (λ x. cond (eqb x.count count) 1 0) e es)) (go (eqb e.count count) (all places count es (cond (eqb e.count count) (acted places e ws) ws)))
  where
    go : (b : Bool) → Did places (cond b (acted places e ws) ws) (play places count es (cond b (acted places e ws) ws)) (same count es) → Did places ws (play places count es (cond b (acted places e ws) ws)) (cond b 1 0 + same count es)
    go true d = both (1 + same count es) (one e.fault places e.position ws) d (omega arith)
    go false d = record { acts = d.acts; waits = d.waits; few = omega (arith, d.few) }

falls_one : (c k : ℕ) → cond (ltb (c + 1) k) 1 0 + cond (eqb k (c + 1)) 1 0 ≡ cond (ltb c k) 1 0
falls_one c k = grind (arith, nat_tests)

falls : (c : ℕ) (es : List Entry) → unused (c + 1) es + same (c + 1) es ≡ unused c es
falls c [] = refl
falls c (e ∷ es) =
    omega (arith, falls_one c e.count, falls c es, sum_by-cons (λ e. cond (ltb (c + 1) e.count) 1 0) e es, sum_by-cons (λ e. cond (eqb e.count (c + 1)) 1 0) e es, sum_by-cons (λ e. cond (ltb c e.count) 1 0) e es)

-- acts that lead from a list to what a counted call makes of it, and are paid from the faults left
pub record Paid (s : State) (ws : List (List ℕ)) (after : State) : Type 0 where
  pub acts : List Act
  pub waits : Acts s.places acts ws after.waiting
  pub same_places : after.places ≡ s.places
  pub spent : (means after).faults + length acts ≤ (means s).faults

paid_by : (t : Bool) (s : State) (ws : List (List ℕ)) → Paid s ws (cond t (record { waiting = play s.places (s.count + 1) s.script ws; places = s.places; script = s.script; count = s.count + 1 }) (record { waiting = ws; places = s.places; script = s.script; count = s.count }))
paid_by true s ws =
    let d = all s.places (s.count + 1) s.script ws in
    record { acts = d.acts; waits = d.waits; same_places = refl; spent = omega (arith, d.few, falls s.count s.script) }
paid_by false s ws = record { acts = []; waits = refl; same_places = refl; spent = omega arith }

paid : (s : State) (ws : List (List ℕ)) → Paid s ws (counted s ws)
paid s ws = paid_by (ltb s.count 1000000000) s ws

-- a frame that finds a place, by the state
pub joins : (s : State) (frame : List ℕ) (after : State) → Fit frame → length s.waiting < s.places → after ≡ counted s (s.waiting ++ (frame ∷ [])) → Joined (means s) frame (means after)
joins s frame after fit room e =
    let d = subst (Paid s (s.waiting ++ (frame ∷ []))) (sym e) (paid s (s.waiting ++ (frame ∷ []))) in
    record { fit = fit; room = room; acts = d.acts; waits = d.waits; same_places = d.same_places; spent = d.spent }

-- what a collect finds after the acts leaves, by the state
pub gathers : (s : State) (buffer : List ℕ) (answer : Option ℕ) (after : State) (filled : List ℕ) → 64 ≤ length buffer → after ≡ first_gone (counted s s.waiting) → Taken (counted s s.waiting).waiting buffer answer after.waiting filled → Gathered (means s) buffer answer (means after) filled
gathers s buffer answer after filled wide e taken =
    let d = paid s s.waiting in
    record {
      wide = wide;
      acts = d.acts;
      between = (counted s s.waiting).waiting;
      waits = d.waits;
      taken = taken;
      same_places = ap (λ (t : State). t.places) e ∙ d.same_places;
      spent = omega (arith, d.spent, ap (λ (t : State). (means t).faults) e);
    }

-- what a strike makes of a carrier is what a counted call makes of its state
pub struck : (p c : ℕ) (es : List Entry) (ws vs : List Frame) (p' : ℕ) → c < 1000000000 → vs ≡ play p (c + 1) es ws → p' ≡ p → ◌≡◌ {A = State} (record { waiting = map held vs; places = p'; script = es; count = c + 1 }) (counted (record { waiting = map held ws; places = p; script = es; count = c }) (map held ws))
struck p c es ws vs p' h v q =
    let w : map held vs ≡ play p (c + 1) es (map held ws) = ap (map held) v ∙ map_play held p (c + 1) es ws in rw (lt-ltb c 1000000000 h, w, q) refl

-- the frame joined, as bytes
pub joined_end : (ws ps : List Frame) (f : Frame) (frame : List ℕ) → ps ≡ ws ++ (f ∷ []) → held f ≡ frame → map held ps ≡ map held ws ++ (frame ∷ [])
joined_end ws ps f frame p h = ap (map held) p ∙ map-append held ws (f ∷ []) ∙ ap (λ (z : List ℕ). map held ws ++ (z ∷ [])) h

-- a collect where no frame is first after the acts
none_taken : (xs vs : List Frame) (p : ℕ) (es : List Entry) (k : ℕ) (buffer : List ℕ) → vs ≡ xs → None ≡ slice_get xs 0 → ◌≡◌ {A = State} (record { waiting = map held vs; places = p; script = es; count = k }) (first_gone (record { waiting = map held xs; places = p; script = es; count = k })) × Taken (map held xs) buffer None (map held vs) buffer
none_taken [] vs p es k buffer e n = rw e (refl, (refl, refl))
none_taken (x ∷ xs) vs p es k buffer e n = search rules

-- a collect where a frame is
some_taken : (xs vs : List Frame) (p : ℕ) (es : List Entry) (k : ℕ) (buffer : List ℕ) (f : Frame) (n : ℕ) (filled : List ℕ) → vs ≡ remove xs 0 → Some f ≡ slice_get xs 0 → n ≡ length (held f) → filled ≡ held f ++ drop (length (held f)) buffer → ◌≡◌ {A = State} (record { waiting = map held vs; places = p; script = es; count = k }) (first_gone (record { waiting = map held xs; places = p; script = es; count = k })) × Taken (map held xs) buffer (Some n) (map held vs) filled
some_taken [] vs p es k buffer f n filled e g l h = search rules
some_taken (x ∷ xs) vs p es k buffer f n filled e g l h = let same : f ≡ x = search rules in rw e (refl, (l ∙ ap (λ (y : Frame). length (held y)) same, refl, h ∙ ap (λ (y : Frame). held y ++ drop (length (held y)) buffer) same))

pub nothing_taken : (a : Scripted) (vs : List Frame) (c : State) (buffer : List ℕ) → state_of a ≡ c → vs ≡ a.waiting.frames.items → None ≡ slice_get a.waiting.frames.items 0 → ◌≡◌ {A = State} (record { waiting = map held vs; places = a.waiting.places; script = vec_items a.script; count = a.count }) (first_gone c) × Taken c.waiting buffer None (map held vs) buffer
nothing_taken a vs c buffer s e n =
    subst (λ (c : State). ◌≡◌ {A = State} (record { waiting = map held vs; places = a.waiting.places; script = vec_items a.script; count = a.count }) (first_gone c) × Taken c.waiting buffer None (map held vs) buffer) s (none_taken a.waiting.frames.items vs a.waiting.places (vec_items a.script) a.count buffer e n)

pub first_taken : (a : Scripted) (vs : List Frame) (c : State) (buffer : List ℕ) (f : Frame) (n : ℕ) (filled : List ℕ) → state_of a ≡ c → vs ≡ remove a.waiting.frames.items 0 → Some f ≡ slice_get a.waiting.frames.items 0 → n ≡ length (held f) → filled ≡ held f ++ drop (length (held f)) buffer → ◌≡◌ {A = State} (record { waiting = map held vs; places = a.waiting.places; script = vec_items a.script; count = a.count }) (first_gone c) × Taken c.waiting buffer (Some n) (map held vs) filled
first_taken a vs c buffer f n filled s e g l h =
    subst (λ (c : State). ◌≡◌ {A = State} (record { waiting = map held vs; places = a.waiting.places; script = vec_items a.script; count = a.count }) (first_gone c) × Taken c.waiting buffer (Some n) (map held vs) filled) s (some_taken a.waiting.frames.items vs a.waiting.places (vec_items a.script) a.count buffer f n filled e g l h)
