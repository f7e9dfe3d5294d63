-- What writing leaves, and that it has one answer.
use Rattle.std.proofs.Common.{◌≡◌, ℕ, ◌+◌, ◌-◌, ◌<◌, ◌≤◌, true, List, ◌++◌, length, take, drop, Some, None, Option, Ok, Err, sym, ap, ◌∙◌, subst, inl, inr, arith}
use Rattle.std.proofs.lemmas.List.{length-append, length-drop, take_at, take_rest}
use Rattle.std.specs.Option.{ok_or}
use Rattle.refusal.specs.declared.Refusal.{Refusal}
use Rattle.refusal.specs.declared.Refusal.TheVariants as refusal
use Rattle.octets.specs.Puts.{Puts}
use Rattle.message.specs.declared.Message.{Message}
use Rattle.message.specs.Bodies.{body_of}
use Rattle.message.proofs.Inverse.{body_length}
use Rattle.frame.specs.declared.Packet.{Packet}
use Rattle.frame.specs.declared.Packet.TheVariants.{Data, Acknowledgement}
use Rattle.frame.specs.declared.layout.Trailer.{Trailer}
use Rattle.frame.specs.Layout.{acknowledgement_fits, alone_trailer, longest_frame, trailer_bytes}
use Rattle.frame.specs.Packets.{Reads, Sendable, Unwritten, Writes, written}
use Rattle.frame.specs.Laws.{WritesAgain, WritesOnce, WrittenReadsBack}
use Rattle.frame.proofs.Trailers.{length_trailer}
use Rattle.frame.proofs.Once.{data_fits, reads_back}

-- past a body there is room for the trailer
pub never_short : (m : Message) (t : Trailer) (end : ℕ) (before mid : List ℕ) → Puts (body_of m) (Some end) before mid → longest_frame ≤ length before
    → length (take (length mid - end) (drop end mid)) < length (trailer_bytes t) → ⊥
never_short m t end before mid w room short =
    let b = body_length m in
    let l : length mid ≡ length (body_of m) + length (drop end before) = ap length w.2 ∙ length-append (body_of m) (drop end before) in
    let h : length (drop end mid) < length (trailer_bytes t) = subst (λ (k : ℕ). k < length (trailer_bytes t)) (ap length (take_rest mid end)) short in
    omega (arith, length-drop {A = ℕ}, length_trailer t)

-- a trailer put alone
pub alone : (a : ℕ) (before after : List ℕ) (put : Option ℕ) → Puts (trailer_bytes (alone_trailer a)) put before after → longest_frame ≤ length before → acknowledgement_fits a ≡ true
    → Writes (Acknowledgement a) before after (ok_or put refusal.SmallBuffer)
alone a before after (Some len) w room f = (f, room, w.0, w.2)
alone a before after None w room f = absurd (omega (arith, length_trailer (alone_trailer a), w.0))

-- a frame that is fit to send into a long enough buffer is written
never_unwritten : (p : Packet) (room : ℕ) (e : Refusal) → Sendable p → longest_frame ≤ room → Unwritten p room e → ⊥
never_unwritten (Data n a m) room e f long (inl (q, u, h)) = let v = data_fits n a m f in cc
never_unwritten (Data n a m) room e f long (inr (inl (q, u, b, h))) = let v = f.2 in cc
never_unwritten (Data n a m) room e f long (inr (inr x)) = let k = x.1 in omega arith
never_unwritten (Acknowledgement a) room e f long (inl x) = let h = x.0 in cc
never_unwritten (Acknowledgement a) room e f long (inr x) = let k = x.1 in omega arith

front : (p : Packet) (before after : List ℕ) (len : ℕ) → Writes p before after (Ok len) → take len after ≡ written p
front p before after len h = ap (take len) h.3 ∙ take_at (written p) (drop len before) len (sym h.2)

pub written_reads_back : WrittenReadsBack
written_reads_back p before after len r w h = reads_back p r w.0 (subst (λ (l : List ℕ). Reads l r) (front p before after len w) h)

pub writes_again : WritesAgain
writes_again bs p before after (Ok len) h room w =
    let l : len ≡ length bs = w.2 ∙ ap length (sym h.0) in
    (ap Ok l, w.3 ∙ ap (λ (x : List ℕ). x ++ drop len before) (sym h.0) ∙ ap (λ (k : ℕ). bs ++ drop k before) l)
writes_again bs p before after (Err e) h room w = absurd (never_unwritten p (length before) e h.1 room w.1)

one_fault : (p : Packet) (room : ℕ) (e d : Refusal) → Unwritten p room e → Unwritten p room d → e ≡ d
one_fault (Data n a m) room e d (inl (p, u, (f, x))) (inl (q, v, (g, y))) = cc
one_fault (Data n a m) room e d (inl (p, u, f)) (inr (inl (q, v, b, g))) = cc
one_fault (Data n a m) room e d (inl (p, u, f)) (inr (inr (s, l, g))) = let v = data_fits n a m s in cc
one_fault (Data n a m) room e d (inr (inl (p, u, b, f))) (inl (q, v, g)) = cc
one_fault (Data n a m) room e d (inr (inl (p, u, b, (f, x)))) (inr (inl (q, v, c, (g, y)))) = cc
one_fault (Data n a m) room e d (inr (inl (p, u, b, f))) (inr (inr (s, l, g))) = let v = s.2 in cc
one_fault (Data n a m) room e d (inr (inr (s, l, f))) (inl (q, v, g)) = let u = data_fits n a m s in cc
one_fault (Data n a m) room e d (inr (inr (s, l, f))) (inr (inl (q, v, c, g))) = let u = s.2 in cc
one_fault (Data n a m) room e d (inr (inr (s, l, (f, x)))) (inr (inr (r, k, (g, y)))) = cc
one_fault (Acknowledgement a) room e d (inl (u, (f, x))) (inl (v, (g, y))) = cc
one_fault (Acknowledgement a) room e d (inl (u, f)) (inr (v, k, g)) = cc
one_fault (Acknowledgement a) room e d (inr (u, l, f)) (inl (v, g)) = cc
one_fault (Acknowledgement a) room e d (inr (u, l, (f, x))) (inr (v, k, (g, y))) = cc

pub writes_once : WritesOnce
writes_once p before after later (Ok i) (Ok j) v w =
    let l : i ≡ j = v.2 ∙ sym w.2 in
    (ap Ok l, v.3 ∙ ap (λ (k : ℕ). written p ++ drop k before) l ∙ sym w.3)
writes_once p before after later (Ok i) (Err d) v w = absurd (never_unwritten p (length before) d v.0 v.1 w.1)
writes_once p before after later (Err e) (Ok j) v w = absurd (never_unwritten p (length before) e w.0 w.1 v.1)
writes_once p before after later (Err e) (Err d) v w = (ap Err (one_fault p (length before) e d v.1 w.1), v.0 ∙ sym w.0)
