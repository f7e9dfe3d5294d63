-- What calls and bookings leave is sound.
use Rattle.std.proofs.Common.{◌≡◌, ℕ, ◌<◌, Bool, true, false, cond, ◌&&◌, ◌||◌, eqb, ltb, leb, ℤ, Some, IfOk, Ok, Err, Result, sym, refl, ap, ◌∙◌, subst, ltb-true}
use Rattle.std.proofs.lemmas.Option.{cond_some}
use Rattle.refusal.specs.declared.Refusal.{Refusal}
use Rattle.refusal.specs.declared.Refusal.TheVariants as refused
use Rattle.annex.specs.declared.agreed.Annex.{Annex}
use Rattle.annex.specs.declared.row.Row.{Row}
use Rattle.annex.specs.Row.{checked_row}
use Rattle.annex.proofs.Ranges.{checked}
use Rattle.amounts.specs.declared.lots.SecuredLot.{SecuredLot}
use Rattle.amounts.specs.declared.lots.SecuredLot.TheVariants.{Absent, Held, OwedBack, DeclineOwed}
use Rattle.amounts.specs.Amounts.{due_amount}
use Rattle.day.specs.declared.DayState.TheVariants as day
use Rattle.day.specs.Days.{day_in, is_closing, is_disputed, is_ended, is_released}
use Rattle.message.specs.declared.Message.{Message}
use Rattle.secured.specs.declared.state.Finding.{Finding}
use Rattle.secured.specs.declared.state.SecuredState.{SecuredState}
use Rattle.secured.specs.declared.state.Weighing.{Weighing}
use Rattle.secured.specs.Bookings.{booked, books, fits}
use Rattle.secured.specs.Calls.{SecuredCall, notify, resolve, confirm, reply, drafts, exposure_or, notifying, replying, noticed, resolve_fits, telling}
use Rattle.secured.specs.Lots.{lot_at, terms_of}
use Rattle.secured.specs.Opening.{opened}
use Rattle.secured.specs.Sound.{Kept, Ranged, Sound}
use Rattle.secured.specs.Weighs.{same_notice, weighing, weighs, weighs_at}
use Rattle.secured.proofs.Cover.{books_kept, confirm_kept, notify_kept, opened_kept, reply_kept, resolve_kept}
use Rattle.secured.proofs.Ranges.{books_ranged, day_ranged, lot_ranged, notice_ranged, opened_ranged, resolve_in_range}
use Rattle.secured.proofs.Tables.{entry_fits, adds_now, entry_at}

-- the book as opened
pub opened_sound : (a : Annex) → Sound (opened a)
opened_sound a = (opened_ranged a, opened_kept a)

-- the book after a message that fits
pub books_sound : (s : SecuredState) → Sound s → (m : Message) → fits s m ≡ true → Sound (books s m)
books_sound s h m e = (books_ranged s h.0 m e, books_kept s h.0.3 h.1 m e)

pub booked_sound : (s : SecuredState) → Sound s → (m : Message) (t : SecuredState) → booked s m ≡ Some t → Sound t
booked_sound s h m t e = let p = cond_some (fits s m) (books s m) t e in subst Sound p.1 (books_sound s h m p.0)

abbrev Drafted : Result (Message × SecuredState) Refusal → Type 0
Drafted x = IfOk x (λ z. Sound z.1)

behind : (b : Bool) (x : Result (Message × SecuredState) Refusal) (e : Refusal) → (b ≡ true → Drafted x) → Drafted (cond b x (Err e))
behind true x e h = h refl
behind false x e h = tt

module _ (s : SecuredState) (r : Ranged s) (h : Kept s) where
  notified : (f : Finding) (row : Row) → Drafted (drafts s (notify f row))
  notified f row = later (is_ended s.day.state && ltb s.day.number row.day) where
    at : (x : Result ℤ Refusal) → checked_row row ≡ x → Drafted (notifying s f row (weighs_at s row x))
    at (Err x) q = tt
    at (Ok e) q = behind (eqb f.day row.day && same_notice f.notice (weighing s row e).notice) _ _ (λ _. (notice_ranged s r row e (checked row e q), notify_kept s row e))

    later : (b : Bool) → Drafted (notifying s f row (cond b (weighs_at s row (checked_row row)) (Err refused.Day)))
    later true = at (checked_row row) refl
    later false = tt

  replied : (l : ℕ) → l < 32 → (x : SecuredLot) → lot_at s l ≡ x → Drafted (replying s l x)
  replied l i Absent q = tt
  replied l i (Held x) q = tt
  replied l i (OwedBack x) q = (lot_ranged s r l Absent refl, reply_kept s r.3 h l Absent i (ap (adds_now s) q))
  replied l i (DeclineOwed x) q = (lot_ranged s r l (Held x) (sym (ap entry_fits q) ∙ entry_at s.lots l r.1), reply_kept s r.3 h l (Held x) i (ap (adds_now s) q))

  -- what a call leaves
  drafts_sound : (c : SecuredCall) → IfOk (drafts s c) (λ z. Sound z.1)
  drafts_sound (notify f row) = notified f row
  drafts_sound (resolve o) = behind (resolve_fits o) _ _ (λ t. behind (is_disputed s.day.state) _ _ (λ d. (day_ranged s r (exposure_or o s.exposure) (record { state = day.Resolved; number = s.day.number; amount = due_amount (terms_of s) (exposure_or o s.exposure) s.before }) (resolve_in_range s r o t), resolve_kept s r.3 h (exposure_or o s.exposure) d)))
  drafts_sound confirm = behind (is_closing s.day.state) _ _ (λ t. behind (is_released s.day.state || leb s.day.amount s.delivered) _ _ (λ u. (day_ranged s r s.exposure (day_in s.day day.Satisfied) r.2, confirm_kept s r.3 h t u)))
  drafts_sound (reply l) = behind (ltb l 32) _ _ (λ t. replied l (ltb-true l 32 t) (lot_at s l) refl)

-- the book after a call
pub drafted_sound : (s : SecuredState) → Sound s → (c : SecuredCall) (m : Message) (t : SecuredState) → drafts s c ≡ Ok (m, t) → Sound t
drafted_sound s h c m t e = subst Drafted e (drafts_sound s h.0 h.1 c)

-- notifying a row that came to the finding
pub notifying_found : (s : SecuredState) (f : Finding) (r : Row) (w : Weighing) (m : Message) (t : SecuredState) → weighs s r ≡ Ok w → (eqb f.day r.day && same_notice f.notice w.notice) ≡ true → m ≡ telling r.day w.exposure w.notice → t ≡ noticed s r w → Ok (m, t) ≡ notifying s f r (weighs s r)
notifying_found s f r w m t e h p q = rw (e, h) (cc)
