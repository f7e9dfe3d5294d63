-- The accord over runs, and what it promises.
use Rattle.std.proofs.Common.{◌≡◌, ◌≤◌, true, ◌&&◌, ◌||◌, leb, ◌⊎◌, List, [], ◌∷◌, length, Ok, Err, Result, sym, refl, subst, inl, inr}
use Rattle.std.proofs.lemmas.Bool.{leb-true, and_parts}
use Rattle.refusal.specs.declared.Refusal.{Refusal}
use Rattle.refusal.specs.declared.Refusal.TheVariants as refusal
use Rattle.annex.specs.declared.agreed.Annex.{Annex}
use Rattle.std.specs.List.{list_all}
use Rattle.amounts.specs.declared.lots.Lot.{Lot}
use Rattle.amounts.specs.declared.lots.Place.TheVariants.{Home}
use Rattle.amounts.specs.declared.lots.PledgorLot.{PledgorLot}
use Rattle.amounts.specs.declared.lots.SecuredLot.{SecuredLot}
use Rattle.amounts.specs.declared.lots.SecuredLot.TheVariants.{Absent}
use Rattle.amounts.specs.Lots.{lot_fits}
use Rattle.day.specs.declared.Day.{Day}
use Rattle.message.specs.declared.Message.{Message}
use Rattle.secured.specs.declared.state.SecuredState.{SecuredState}
use Rattle.secured.specs.Bookings as secured
use Rattle.secured.specs.Calls as secured_calls
use Rattle.secured.specs.Lots as holds
use Rattle.secured.specs.Opening as secured-opening
use Rattle.pledgor.specs.declared.state.PledgorState.{PledgorState}
use Rattle.pledgor.specs.Bookings as pledgor
use Rattle.pledgor.specs.Calls as pledgor_calls
use Rattle.pledgor.specs.Lots as posts
use Rattle.pledgor.specs.Opening as pledgor-opening
use Rattle.secured.proofs.Cover.{kept_covered, opened_kept}
use Rattle.pledgor.proofs.Ranges.{opened_home, opened_ranged}
use Rattle.pledgor.proofs.Tables.{repeated}
use Rattle.accord.specs.Standing.{words, Standing, home}
use Rattle.accord.specs.Accord.{Accord, Days}
use Rattle.accord.specs.Agreement.{after, joined, Reached, opening, secured_call, pledgor_call, secured_booking, pledgor_booking, next_fits, any, returns, Agreement, BooksAgree}
use Rattle.accord.specs.Joint.{AccordIsKept}
use Rattle.accord.proofs.Days.{settled_latest}
use Rattle.accord.proofs.UnderWay.{has_new, new_brings, returned_returns, shown_same, shown_both, shown_or}
use Rattle.accord.proofs.Accord.{passed, secured_fits, pledgor_fits, secured_books, pledgor_books, secured_issues, pledgor_issues}

-- as opened

opened_lot : (x : PledgorLot) (a : SecuredLot) → x.place ≡ Home → a ≡ Absent → Standing x [] a []
opened_lot x a e q = subst (λ b. Standing x [] b []) (sym q) (subst (λ y. Standing (record { place = y; lot = x.lot }) [] Absent []) (sym e) home)

opened_accord : (a b : Annex) (ls : List Lot) → a.terms ≡ b.terms → length ls ≤ 32 → list_all lot_fits ls ≡ true → Accord (secured-opening.opened a) (pledgor-opening.opened b ls) [] []
opened_accord a b ls t n e = record {
  terms = t;
  lots = λ k. opened_lot (posts.lot_at (pledgor-opening.opened b ls) k) (holds.lot_at (secured-opening.opened a) k) (opened_home b ls k) (repeated 32 k Absent);
  days = inl (refl, tt);
  kept = opened_kept a;
  size = refl;
  ranged = opened_ranged b ls n e;
}

-- two books opened on equal terms are in accord
pub opening_accords : (a b : Annex) (ls : List Lot) (p : PledgorState) → a.terms ≡ b.terms → pledgor-opening.opens b ls ≡ Ok p → Accord (secured-opening.opened a) p [] []
opening_accords a b ls p t e = passed (λ q. Accord (secured-opening.opened a) q [] []) (leb (length ls) 32 && list_all lot_fits ls) (pledgor-opening.opened b ls) refusal.Lot p e (λ u.
    let q = and_parts (leb (length ls) 32) (list_all lot_fits ls) u in
    opened_accord a b ls t (leb-true (length ls) 32 q.0) q.1)

-- calls, refused or not

pub secured_call_accords : (s : SecuredState) (p : PledgorState) (xs ys : List Message) (c : secured_calls.SecuredCall) → Accord s p xs ys → Accord (after s (secured_calls.drafts s c)) p (joined xs (secured_calls.drafts s c)) ys
secured_call_accords s p xs ys c h = go (secured_calls.drafts s c) refl where
  go : (o : Result (Message × SecuredState) Refusal) → secured_calls.drafts s c ≡ o → Accord (after s o) p (joined xs o) ys
  go (Ok z) e = secured_issues s p xs ys h c z.0 z.1 e
  go (Err x) e = h

pub pledgor_call_accords : (s : SecuredState) (p : PledgorState) (xs ys : List Message) (c : pledgor_calls.PledgorCall) → Accord s p xs ys → Accord s (after p (pledgor_calls.drafts p c)) xs (joined ys (pledgor_calls.drafts p c))
pledgor_call_accords s p xs ys c h = go (pledgor_calls.drafts p c) refl where
  go : (o : Result (Message × PledgorState) Refusal) → pledgor_calls.drafts p c ≡ o → Accord s (after p o) xs (joined ys o)
  go (Ok z) e = pledgor_issues s p xs ys h c z.0 z.1 e
  go (Err x) e = h

-- the accord holds wherever a run leads
pub reached_accords : {s : SecuredState} {p : PledgorState} {xs ys : List Message} → Reached s p xs ys → Accord s p xs ys
reached_accords (opening {p = p} a b ls t e) = opening_accords a b ls p t e
reached_accords (secured_call {s = s} {p = p} {forth = xs} {back = ys} c r) = secured_call_accords s p xs ys c (reached_accords r)
reached_accords (pledgor_call {s = s} {p = p} {forth = xs} {back = ys} c r) = pledgor_call_accords s p xs ys c (reached_accords r)
reached_accords (secured_booking {s = s} {p = p} {forth = xs} {back = ys} m r t) = secured_books s p xs ys m (reached_accords r)
reached_accords (pledgor_booking {s = s} {p = p} {forth = xs} {back = ys} m r t) = pledgor_books s p xs ys m (reached_accords r)

-- what the accord promises

no_days : (sd pd : Day) → Days sd pd [] [] → sd ≡ pd
no_days sd pd (inl h) = sym h.0
no_days sd pd (inr h) = h.0

module _ (s : SecuredState) (p : PledgorState) where
  forth_next : (xs ys : List Message) → Accord s p xs ys → next_fits (pledgor.fits p) xs ≡ true
  forth_next [] ys h = refl
  forth_next (m ∷ xs) ys h = pledgor_fits s p xs ys m h

  back_next : (xs ys : List Message) → Accord s p xs ys → next_fits (secured.fits s) ys ≡ true
  back_next xs [] h = refl
  back_next xs (m ∷ ys) h = secured_fits s p xs ys m h

  bare : (xs ys : List Message) → xs ≡ [] → ys ≡ [] → Accord s p xs ys → Accord s p [] []
  bare xs ys e q h = subst (λ zs. Accord s p [] zs) q (subst (λ zs. Accord s p zs ys) e h)

  pub accord_agrees : (xs ys : List Message) → Accord s p xs ys → Agreement s p xs ys
  accord_agrees xs ys h = record {
    terms = h.terms;
    forth_fits = forth_next xs ys h;
    back_fits = back_next xs ys h;
    same_day = λ e q. no_days s.day p.day (bare xs ys e q h).days;
    same_position = λ e q k. shown_same ((bare xs ys e q h).lots k);
    settled = settled_latest s.day p.day xs ys h.days;
    held_posted = λ k v e. shown_both v (h.lots k) e;
    under_way = λ k. subst (λ b. (holds.position s k ≡ posts.position p k) ⊎ ((b || any (returns k) xs) ≡ true)) (new_brings k ys)
        (subst (λ b. (holds.position s k ≡ posts.position p k) ⊎ ((has_new (words k ys) || b) ≡ true)) (returned_returns k xs) (shown_or (h.lots k)));
    covered = kept_covered s h.kept;
  }

pub books_agree : BooksAgree
books_agree s p xs ys r = accord_agrees s p xs ys (reached_accords r)

pub joint : AccordIsKept
joint = record {
  opening = opening_accords;
  secured_issue = λ {s} {t} {p} {forth} {back} c m h e. secured_issues s p forth back h c m t e;
  pledgor_issue = λ {s} {p} {q} {forth} {back} c m h e. pledgor_issues s p forth back h c m q e;
  forth_fits = λ {s} {p} {forth} {back} m h. pledgor_fits s p forth back m h;
  back_fits = λ {s} {p} {forth} {back} m h. secured_fits s p forth back m h;
  pledgor_booking = λ {s} {p} {forth} {back} m h. pledgor_books s p forth back m h;
  secured_booking = λ {s} {p} {forth} {back} m h. secured_books s p forth back m h;
  agrees = λ {s} {p} {forth} {back} h. accord_agrees s p forth back h;
}
