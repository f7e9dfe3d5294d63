-- Reading has one answer, and a frame that is fit to send reads as itself.
use Rattle.std.proofs.Common.{◌≡◌, ℕ, ◌+◌, ◌<◌, ◌≤◌, ◌⊎◌, List, [], ◌++◌, length, None, Ok, Err, Result, sym, refl, ap, ◌∙◌, subst, inl, inr, arith}
use Rattle.std.proofs.lemmas.List.{length-append}
use Rattle.std.proofs.lemmas.Bool.{eq-eqb}
use Rattle.std.proofs.lemmas.Bool.Decides.{nat_tests}
use Rattle.refusal.specs.declared.Refusal.{Refusal}
use Rattle.message.specs.declared.Message.{Message}
use Rattle.message.specs.Bodies.{body_of}
use Rattle.message.proofs.Within.{typed}
use Rattle.message.proofs.Inverse.{same_message, body_length}
use Rattle.body.proofs.Once.{never_unread, one_unread}
use Rattle.frame.specs.declared.Frame.{Frame}
use Rattle.frame.specs.declared.Frame.TheVariants as frame
use Rattle.frame.specs.declared.Packet.{Packet}
use Rattle.frame.specs.declared.Packet.TheVariants.{Data, Acknowledgement}
use Rattle.frame.specs.declared.layout.Trailer.{Trailer}
use Rattle.frame.specs.Layout.{alone_trailer, longest_frame, trailer_bytes, trailer_length, TypedTrailer, unfit_trailer}
use Rattle.frame.specs.Packets.{BodyUnfit, PartUnfit, Reads, ReadsFrame, Refused, Sendable, Splits, trailer_of, written}
use Rattle.frame.specs.Laws.{FramesDiffer, FramesReadBack, FramesReadOnce, ReadsBack, ReadsOnce, Said, data_with, said, said_by}
use Rattle.frame.proofs.Trailers.{length_trailer, same_parts}

-- the parts of a frame
abbrev body_in : Packet → List ℕ
body_in (Data n a m) = body_of m
body_in (Acknowledgement a) = []

abbrev trailer_in : Packet → Trailer
trailer_in (Data n a m) = trailer_of n a m
trailer_in (Acknowledgement a) = alone_trailer a

cut : (p : Packet) → written p ≡ body_in p ++ trailer_bytes (trailer_in p)
cut (Data n a m) = refl
cut (Acknowledgement a) = refl

pub length_written : (p : Packet) → length (written p) ≡ length (body_in p) + trailer_length
length_written (Data n a m) = length-append (body_of m) (trailer_bytes (trailer_of n a m)) ∙ ap (λ (k : ℕ). length (body_of m) + k) (length_trailer (trailer_of n a m))
length_written (Acknowledgement a) = length_trailer (alone_trailer a)

pub written_short : (p : Packet) → (trailer_length ≤ length (written p)) × (length (written p) ≤ longest_frame)
written_short (Data n a m) = let l = length_written (Data n a m) in let b = body_length m in (omega arith, omega arith)
written_short (Acknowledgement a) = let l = length_written (Acknowledgement a) in (omega arith, omega arith)

pub typed_in : (p : Packet) → Sendable p → TypedTrailer (trailer_in p)
typed_in (Data n a m) f = let b = body_length m in grind (arith, nat_tests)
typed_in (Acknowledgement a) f = grind (arith, nat_tests)

pub data_fits : (n a : ℕ) (m : Message) → Sendable (Data n a m) → unfit_trailer (length (body_of m) + trailer_length) (trailer_of n a m) ≡ None
data_fits n a m f = rw (f.0, f.1, eq-eqb (length (body_of m) + trailer_length) (length (body_of m) + trailer_length) refl)

fits_in : (p : Packet) → Sendable p → unfit_trailer (length (written p)) (trailer_in p) ≡ None
fits_in (Data n a m) f = ap (λ (k : ℕ). unfit_trailer k (trailer_of n a m)) (length_written (Data n a m)) ∙ data_fits n a m f
fits_in (Acknowledgement a) f = ap (λ (k : ℕ). unfit_trailer k (alone_trailer a)) (length_written (Acknowledgement a)) ∙ rw f

body_fits : (p : Packet) (q : ℕ) → Sendable p → BodyUnfit (trailer_in p) (body_in p) q → ⊥
body_fits (Data n a m) q f (inl x) = let k = x.0 in omega arith
body_fits (Data n a m) q f (inr x) = never_unread m q f.2 x.1
body_fits (Acknowledgement a) q f (inl x) = let k = x.1 in omega arith
body_fits (Acknowledgement a) q f (inr x) = let k = x.0 in omega arith

-- two different frames that are fit to send have different bytes
pub frames_differ : FramesDiffer
frames_differ (Data n a m) (Data j b k) f g e =
    let s = same_parts (body_of m) (body_of k) (trailer_of n a m) (trailer_of j b k) (typed_in (Data n a m) f) (typed_in (Data j b k) g) e in
    let x : n ≡ j = ap (λ (t : Trailer). t.number) s.1 in
    let y : a ≡ b = ap (λ (t : Trailer). t.acknowledgement) s.1 in
    let z : m ≡ k = same_message m k (typed m f.2) (typed k g.2) s.0 in
    cc
frames_differ (Data n a m) (Acknowledgement b) f g e =
    let l : length (written (Data n a m)) ≡ length (written (Acknowledgement b)) = ap length e in
    let z : ⊥ = omega (arith, length_written (Data n a m), length_written (Acknowledgement b), body_length m) in absurd z
frames_differ (Acknowledgement a) (Data j b k) f g e =
    let l : length (written (Acknowledgement a)) ≡ length (written (Data j b k)) = ap length e in
    let z : ⊥ = omega (arith, length_written (Data j b k), length_written (Acknowledgement a), body_length k) in absurd z
frames_differ (Acknowledgement a) (Acknowledgement b) f g e =
    let s = same_parts [] [] (alone_trailer a) (alone_trailer b) (typed_in (Acknowledgement a) f) (typed_in (Acknowledgement b) g) e in
    ap Acknowledgement (ap (λ (t : Trailer). t.acknowledgement) s.1)

short_or_long : (bs : List ℕ) → trailer_length ≤ length bs → length bs ≤ longest_frame → (length bs < trailer_length) ⊎ (longest_frame < length bs) → ⊥
short_or_long bs low high (inl h) = omega arith
short_or_long bs low high (inr h) = omega arith

part_fits : (p : Packet) (e : Refusal) (body : List ℕ) (t : Trailer) → Sendable p → body_in p ≡ body → trailer_in p ≡ t → PartUnfit (length (written p)) body t e → ⊥
part_fits p e body t f b s (inl y) = let u = fits_in p f in let v = ap (unfit_trailer (length (written p))) s ∙ y.1 in cc
part_fits p e body t f b s (inr y) =
    body_fits p y.0 f (subst (λ (l : List ℕ). BodyUnfit (trailer_in p) l y.0) (sym b) (subst (λ (u : Trailer). BodyUnfit u body y.0) (sym s) y.2))

-- a frame that is fit to send is not refused
never_refused : (p : Packet) (e : Refusal) → Sendable p → Refused (written p) e → ⊥
never_refused p e f (inl x) = let w = written_short p in short_or_long (written p) w.0 w.1 x.0
never_refused p e f (inr x) =
    let s = same_parts (body_in p) x.0 (trailer_in p) x.1 (typed_in p f) x.2.2 (sym (cut p) ∙ x.2.1) in
    part_fits p e x.0 x.1 f s.0 s.1 x.3

pub reads_back : ReadsBack
reads_back p (Ok q) f h = ap Ok (sym (frames_differ p q f h.1 h.0))
reads_back p (Err e) f h = absurd (never_refused p e f h)

split_length : (bs body : List ℕ) (t : Trailer) → Splits bs body t → trailer_length ≤ length bs
split_length bs body t h = omega (arith, ap length h.1, length-append body (trailer_bytes t), length_trailer t)

one_body_fault : (t : Trailer) (body : List ℕ) (p q : ℕ) → BodyUnfit t body p → BodyUnfit t body q → p ≡ q
one_body_fault t body p q (inl x) (inl y) = x.2 ∙ sym y.2
one_body_fault t body p q (inl x) (inr y) = let a = x.0 in let b = y.0 in let z : ⊥ = omega arith in absurd z
one_body_fault t body p q (inr x) (inl y) = let a = x.0 in let b = y.0 in let z : ⊥ = omega arith in absurd z
one_body_fault t body p q (inr x) (inr y) = one_unread body p q x.1 y.1

one_part : (len : ℕ) (body : List ℕ) (t : Trailer) (e d : Refusal) → PartUnfit len body t e → PartUnfit len body t d → e ≡ d
one_part len body t e d (inl (p, u, (f, x))) (inl (q, v, (g, y))) = cc
one_part len body t e d (inl (p, u, (f, x))) (inr (q, v, k, (g, y))) = cc
one_part len body t e d (inr (p, u, h, (f, x))) (inl (q, v, (g, y))) = cc
one_part len body t e d (inr (p, u, h, (f, x))) (inr (q, v, k, (g, y))) = let same = one_body_fault t body p q h k in cc

one_refusal : (bs : List ℕ) (e d : Refusal) → Refused bs e → Refused bs d → e ≡ d
one_refusal bs e d (inl x) (inl y) = x.1.0 ∙ sym y.1.0
one_refusal bs e d (inl x) (inr y) = absurd (short_or_long bs (split_length bs y.0 y.1 y.2) y.2.0 x.0)
one_refusal bs e d (inr x) (inl y) = absurd (short_or_long bs (split_length bs x.0 x.1 x.2) x.2.0 y.0)
one_refusal bs e d (inr x) (inr y) =
    let s = same_parts x.0 y.0 x.1 y.1 x.2.2 y.2.2 (sym x.2.1 ∙ y.2.1) in
    one_part (length bs) y.0 y.1 e d
    (subst (λ (u : Trailer). PartUnfit (length bs) y.0 u e) s.1 (subst (λ (l : List ℕ). PartUnfit (length bs) l x.1 e) s.0 x.3)) y.3

pub reads_once : ReadsOnce
reads_once bs (Ok p) s g h = sym (reads_back p s g.1 (subst (λ (l : List ℕ). Reads l s) g.0 h))
reads_once bs (Err e) (Ok q) g h = reads_back q (Err e) h.1 (subst (λ (l : List ℕ). Reads l (Err e)) h.0 g)
reads_once bs (Err e) (Err d) g h = ap Err (one_refusal bs e d g h)

-- the reading of a frame with its message read
abbrev said_as : Result Packet Refusal → Result Said Refusal
said_as (Ok p) = Ok (said_by p)
said_as (Err e) = Err e

record Lifts (bs : List ℕ) (r : Result Frame Refusal) : Type 0 where
  read : Result Packet Refusal
  reads : Reads bs read
  says : said r ≡ said_as read

lifts : (bs : List ℕ) (r : Result Frame Refusal) → ReadsFrame bs r → Lifts bs r
lifts bs (Ok (frame.Data n a body)) h = record { read = Ok (Data n a h.1.0); reads = h.1.2; says = ap (λ (l : List ℕ). Ok (data_with n a l)) h.1.1 }
lifts bs (Ok (frame.Acknowledgement a)) h = record { read = Ok (Acknowledgement a); reads = h; says = refl }
lifts bs (Err e) h = record { read = Err e; reads = h; says = refl }

pub frames_read_once : FramesReadOnce
frames_read_once bs r s g h =
    let x = lifts bs r g in
    let y = lifts bs s h in
    x.says ∙ ap said_as (reads_once bs x.read y.read x.reads y.reads) ∙ sym y.says

pub frames_read_back : FramesReadBack
frames_read_back p r f h = let x = lifts (written p) r h in x.says ∙ ap said_as (reads_back p x.read f x.reads)
