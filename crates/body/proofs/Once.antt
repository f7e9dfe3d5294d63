-- Reading a body has one answer.
use Rattle.std.proofs.Common.{◌≡◌, ℕ, List, None, Ok, Err, sym, ap, ◌∙◌, subst, inl, inr}
use Rattle.message.specs.declared.Message.{Message}
use Rattle.message.specs.Ranges.{unfit_of}
use Rattle.message.specs.Bodies.{body_of, Malformed}
use Rattle.message.proofs.Within.{typed}
use Rattle.message.proofs.Inverse.{same_message, well_formed}
use Rattle.body.specs.Reading.{Unread, ReadsMessage}
use Rattle.body.specs.Laws.{BodiesReadOnce, BodiesReadBack, BodiesDiffer}

pub bodies_differ : BodiesDiffer
bodies_differ m k h g e = same_message m k h g e

-- the first unfit field is one
pub one_unread : (body : List ℕ) (p q : ℕ) → Unread body p → Unread body q → p ≡ q
one_unread body p q (inl x) (inl y) = x.1 ∙ sym y.1
one_unread body p q (inl x) (inr y) = absurd (well_formed y.0 (subst Malformed y.1 x.0))
one_unread body p q (inr x) (inl y) = absurd (well_formed x.0 (subst Malformed x.1 y.0))
one_unread body p q (inr x) (inr y) = let a = x.3 in let b = ap unfit_of (same_message x.0 y.0 x.2 y.2 (sym x.1 ∙ y.1)) ∙ y.3 in cc

-- a message in its ranges is not refused
pub never_unread : (m : Message) (p : ℕ) → unfit_of m ≡ None → Unread (body_of m) p → ⊥
never_unread m p f (inl x) = well_formed m x.0
never_unread m p f (inr x) = let u = ap unfit_of (same_message m x.0 (typed m f) x.2 x.1) ∙ x.3 in cc

pub bodies_read_back : BodiesReadBack
bodies_read_back n m (Ok k) f h = ap Ok (sym (same_message m k (typed m f) (typed k h.1) h.0))
bodies_read_back n m (Err e) f h = absurd (never_unread m h.0 f h.1)

pub bodies_read_once : BodiesReadOnce
bodies_read_once n body (Ok m) s g h = sym (bodies_read_back n m s g.1 (subst (λ (l : List ℕ). ReadsMessage n l s) g.0 h))
bodies_read_once n body (Err e) (Ok m) g h = bodies_read_back n m (Err e) h.1 (subst (λ (l : List ℕ). ReadsMessage n l (Err e)) h.0 g)
bodies_read_once n body (Err e) (Err d) g h = let a = g.2.0 in let b = h.2.0 in let p = one_unread body g.0 h.0 g.1 h.1 in cc
