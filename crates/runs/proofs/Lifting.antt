-- What a carrier does to the bytes of frames, as what a channel of the law does to the frames.
use Rattle.std.proofs.Common.{◌≡◌, ℕ, ◌+◌, ◌<◌, ◌≤◌, List, [], ◌∷◌, ◌++◌, map, length, take, drop, option_map, Some, None, Ok, Err, Option, Result, sym, refl, ap, ◌∙◌, inl, inr, arith}
use Rattle.std.proofs.lemmas.List.{length-map, map_push, take_at}
use Rattle.refusal.specs.declared.Refusal.{Refusal}
use Rattle.refusal.specs.Numbers.{number_of}
use Rattle.message.specs.declared.Message.{Message}
use Rattle.frame.specs.declared.Packet.{Packet}
use Rattle.frame.specs.declared.Packet.TheVariants.{Data, Acknowledgement}
use Rattle.frame.specs.Packets.{Sendable, written}
use Rattle.frame.proofs.Once.{written_short}
use Rattle.carrier.specs.Means.{Act, Acts, Fit, Means}
use Rattle.carrier.specs.Rules.{Posted, PostRefused, Taken}
use Rattle.law.specs.Link as law
use Rattle.law.specs.Link.{Chan, Frame}
use Rattle.law.proofs.Lift.{lifts}
use Rattle.runs.specs.Turns.{Gathers}
use Rattle.runs.proofs.Acting.{acts_law}

-- the frame of the law as a frame of the wire
abbrev pub packet_of : Frame Message → Packet
packet_of (law.message n a m) = Data n a m
packet_of (law.alone a) = Acknowledgement a

-- its bytes
abbrev pub bytes_of : Frame Message → List ℕ
bytes_of u = written (packet_of u)

abbrev pub CanBeSent : Frame Message → Type 0
CanBeSent u = Sendable (packet_of u)

-- the channel of the law with these frames
abbrev pub chan_of : List (Frame Message) → Means → Chan Message
chan_of ws m = record { waiting = ws; places = m.places; faults = m.faults }

faulted_by : {p p' f g n : ℕ} {ws vs : List (Frame Message)} → p' ≡ p → law.Acts p n ws vs → g + n ≤ f →
    law.Faulted (record { waiting = ws; places = p; faults = f }) (record { waiting = vs; places = p'; faults = g })
faulted_by {p} {p'} {f} {g} {n} {ws} {vs} e r l =
    rw e (law.faulted r l)

pub record Faults (m n : Means) (xs : List (Frame Message)) (bytes : List (List ℕ)) : Type 0 where
  pub us : List (Frame Message)
  pub waits : map bytes_of us ≡ bytes
  pub does : law.Faulted (chan_of xs m) (chan_of us n)

faults : (m n : Means) (acts : List Act) (xs : List (Frame Message)) (ws bytes : List (List ℕ)) → ws ≡ map bytes_of xs →
    Acts m.places acts ws bytes → n.places ≡ m.places → n.faults + length acts ≤ m.faults → Faults m n xs bytes
faults m n acts xs ws bytes e a p l =
    let r = lifts (Frame Message) (List ℕ) bytes_of m.places (length acts) xs bytes
    (acts_law m.places acts (map bytes_of xs) bytes (rw (← e) a)) in
    record { us = r.0; waits = r.1; does = faulted_by p r.2 l }

-- the frame that leaves a list of waiting ones, and what stays
abbrev Leaves : List (List ℕ) → Option (List ℕ) → List (List ℕ) → Type 0
Leaves ws None rest = (ws ≡ []) × (rest ≡ [])
Leaves ws (Some f) rest = ws ≡ f ∷ rest

leaves : (ws : List (List ℕ)) (b : List ℕ) (o : Option ℕ) (rest : List (List ℕ)) (filled : List ℕ) → Taken ws b o rest filled → Leaves ws (option_map (λ n. take n filled) o) rest
leaves [] b (Some n) rest filled t = absurd t
leaves [] b None rest filled t = (refl, t.0)
leaves (f ∷ fs) b None rest filled t = absurd t
leaves (f ∷ fs) b (Some n) rest filled t = grind (arith, take_at f (drop (length f) b) (length f))

pub record Collects (i i' : Means) (xs : List (Frame Message)) (frame : Option (List ℕ)) : Type 0 where
  pub x : Option (Frame Message)
  pub us : List (Frame Message)
  pub told : frame ≡ option_map bytes_of x
  pub waits : i'.waiting ≡ map bytes_of us
  pub does : law.Collected (chan_of xs i) x (chan_of us i')

collect_split : (i i' : Means) (xs us : List (Frame Message)) (bytes : List (List ℕ)) (frame : Option (List ℕ)) →
    map bytes_of us ≡ bytes → Leaves bytes frame i'.waiting → law.Faulted (chan_of xs i) (chan_of us i') → Collects i i' xs frame
collect_split i i' xs [] bytes None e l t = record { x = None; us = []; told = refl; waits = l.1; does = law.nothing t }
collect_split i i' xs (u ∷ us) bytes None e l t = grind arith
collect_split i i' xs [] bytes (Some f) e l t = grind arith
collect_split i i' xs (u ∷ us) bytes (Some f) e l t =
    record { x = Some u; us = us; told = grind (arith, e, l); waits = grind (arith, e, l); does = law.first t }

pub collect_lift : (i i' : Means) (frame : Option (List ℕ)) (xs : List (Frame Message)) → i.waiting ≡ map bytes_of xs → Gathers i frame i' → Collects i i' xs frame
collect_lift i i' frame xs e g =
    let c = g.collects in
    let r = faults i i' c.acts xs i.waiting c.between e c.waits c.same_places c.spent in
    let l = leaves c.between g.buffer g.answer i'.waiting g.filled c.taken in
    collect_split i i' xs r.us c.between frame r.waits (rw g.front l) r.does

-- every frame has 1 to 64 bytes
pub bytes_fit : (p : Packet) → Fit (written p)
bytes_fit p = let w = written_short p in (omega (arith, w.0), w.1)

pub record PostLift (f : Frame Message) (o o' : Means) (ys : List (Frame Message)) : Type 0 where
  pub us : List (Frame Message)
  pub waits : o'.waiting ≡ map bytes_of us
  pub does : law.Posted f (chan_of ys o) (chan_of us o')

pub post_lift : (f : Frame Message) (o o' : Means) (ys : List (Frame Message)) (r : Result Unit Refusal) → o.waiting ≡ map bytes_of ys → length ys ≤ o.places →
    Posted o (bytes_of f) r o' → PostLift f o o' ys
post_lift f o o' ys (Ok x) e l h =
    let k : length ys < o.places = omega (arith, h.room, ap length e, length-map ys bytes_of) in
    let r = faults o o' h.acts (ys ++ (f ∷ [])) (o.waiting ++ (bytes_of f ∷ [])) o'.waiting (ap (λ (l : List (List ℕ)). l ++ (bytes_of f ∷ [])) e ∙ sym (map_push bytes_of ys f)) h.waits h.same_places h.spent in
    record { us = r.us; waits = sym r.waits; does = law.joined k r.does }
post_lift f o o' ys (Err x) e l h = refused h.0
  where
    refused : PostRefused o (bytes_of f) (number_of x) → PostLift f o o' ys
    refused (inl z) = absurd (z.1 (bytes_fit (packet_of f)))
    refused (inr z) =
        let k : length ys ≡ o.places = omega (arith, z.2, ap length e, length-map ys bytes_of) in
        record { us = ys; waits = ap (λ (m : Means). m.waiting) h.1 ∙ e; does = rw h.1 (law.full k) }
