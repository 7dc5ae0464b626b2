-- Which answer a request gets, and when.
use Rattle.std.proofs.Common.{◌≡◌, ◌≢◌, ℕ, ◌+◌, ◌<◌, ◌≤◌, ◌↔◌, ◌⊎◌, inl, inr, true, false, cond, eqb, Option, Some, None, refl, sym, ap, ◌∙◌, subst, arith}
use Rattle.std.specs.Option.{option_or, unwrap_or}
use Rattle.std.proofs.lemmas.Bool.{eq-eqb, eqb-true, lt-ltb, le-ltb, cases_lt, false≢true}
use Rattle.lease_core.specs.declared.entry.Why.{Why}
use Rattle.lease_core.specs.declared.entry.Why.TheVariants.{OtherOwner, Reserved, LeasesSpent, MissingMessages}
use Rattle.lease_core.specs.declared.messages.Reply.TheVariants.{Granted as ToGranted, Refused as ToRefused}
use Rattle.lease_core.specs.State.{State, owner_of, lease_of}
use Rattle.lease_core.specs.Steps.{why_owned, why_reserved, why_spent, why_missing, why_refused, reply_by, reply_to, IsActive, IsOpenTo, CanTake}

-- one of five, each with its cause
pub data Outcome (limit : ℕ) (s : State) (library from : ℕ) : Type 0 where
  owned : IsActive s → why_refused limit s library from ≡ Some (OtherOwner (owner_of s) (lease_of s)) → Outcome limit s library from
  kept_for : (heir until : ℕ) → owner_of s ≡ 0 → s.reserved ≡ Some (heir, until) → heir ≢ library → why_refused limit s library from ≡ Some (Reserved heir until) → Outcome limit s library from
  spent : CanTake s library → lease_of s ≡ limit → why_refused limit s library from ≡ Some (LeasesSpent (lease_of s)) → Outcome limit s library from
  missing : CanTake s library → lease_of s ≢ limit → s.inbound < from → why_refused limit s library from ≡ Some (MissingMessages from s.inbound) → Outcome limit s library from
  granted : CanTake s library → lease_of s ≢ limit → from ≤ s.inbound → why_refused limit s library from ≡ None → Outcome limit s library from

-- what stands before a library that isn't the owner
reserved_cases : (r : Option (ℕ × ℕ)) (library : ℕ) → ((heir : ℕ) × (until : ℕ) × (r ≡ Some (heir, until)) × (heir ≢ library) × (why_reserved r library ≡ Some (Reserved heir until))) ⊎ (IsOpenTo r library × (why_reserved r library ≡ None))
reserved_cases None library = inr (tt, refl)
reserved_cases (Some r) library =
    elim (eqb r.0 library) as (λ b. eqb r.0 library ≡ b → ((heir : ℕ) × (until : ℕ) × (Some r ≡ Some (heir, until)) × (heir ≢ library) × (cond b None (Some (Reserved r.0 r.1)) ≡ Some (Reserved heir until))) ⊎ (IsOpenTo (Some r) library × (cond b None (Some (Reserved r.0 r.1)) ≡ None))) [
      | true ↦ λ same. inr (eqb-true r.0 library same, refl)
      | false ↦ λ other. inl (r.0, r.1, refl, (λ same. false≢true (sym other ∙ eq-eqb r.0 library same)), refl)
    ] refl

why_owned_none : (s : State) → owner_of s ≤ 0 → why_owned s ≡ None
why_owned_none s none = ap (λ b. cond b (Some (OtherOwner (owner_of s) (lease_of s))) None) (le-ltb 0 (owner_of s) none)

pub outcome : (limit : ℕ) (s : State) (library from : ℕ) → Outcome limit s library from
unfolding why_refused
outcome limit s library from =
    elim (cases_lt 0 (owner_of s)) [
      | inl some ↦ owned some (ap (λ b. option_or (cond b (Some (OtherOwner (owner_of s) (lease_of s))) None) (option_or (why_reserved s.reserved library) (option_or (why_spent limit s) (why_missing s from)))) (lt-ltb 0 (owner_of s) some))
      | inr none ↦
          let free : owner_of s ≡ 0 = omega arith in
          let first = ap (λ o. option_or o (option_or (why_reserved s.reserved library) (option_or (why_spent limit s) (why_missing s from)))) (why_owned_none s none) in
          elim (reserved_cases s.reserved library) [
            | inl (heir, until, is, other, why) ↦ kept_for heir until free is other (first ∙ ap (λ o. option_or o (option_or (why_spent limit s) (why_missing s from))) why)
            | inr (can, why) ↦
                let take : CanTake s library = record { nobody_owns = free; is_open = can } in
                let second = first ∙ ap (λ o. option_or o (option_or (why_spent limit s) (why_missing s from))) why in
                elim (eqb (lease_of s) limit) as (λ b. eqb (lease_of s) limit ≡ b → Outcome limit s library from) [
                  | true ↦ λ same. spent take (eqb-true (lease_of s) limit same) (second ∙ ap (λ b. option_or (cond b (Some (LeasesSpent (lease_of s))) None) (why_missing s from)) same)
                  | false ↦ λ other.
                      let left : lease_of s ≢ limit = λ same. false≢true (sym other ∙ eq-eqb (lease_of s) limit same) in
                      let third = second ∙ ap (λ b. option_or (cond b (Some (LeasesSpent (lease_of s))) None) (why_missing s from)) other in
                      elim (cases_lt s.inbound from) [
                        | inl past ↦ missing take left past (third ∙ ap (λ b. cond b (Some (MissingMessages from s.inbound)) None) (lt-ltb s.inbound from past))
                        | inr there ↦ granted take left there (third ∙ ap (λ b. cond b (Some (MissingMessages from s.inbound)) None) (le-ltb s.inbound from there))
                      ]
                ] refl
          ]
    ]

-- a reservation that lets the library in is its own
open_to : (r : Option (ℕ × ℕ)) (heir until library : ℕ) → r ≡ Some (heir, until) → IsOpenTo r library → heir ≡ library
open_to r heir until library is opens = subst (λ o. IsOpenTo o library) is opens

same_heir : (r : Option (ℕ × ℕ)) (heir until other later : ℕ) → r ≡ Some (heir, until) → r ≡ Some (other, later) → (heir ≡ other) × (until ≡ later)
same_heir r heir until other later p q =
    let pair = λ (o : Option (ℕ × ℕ)). unwrap_or o (0, 0) in
    let both = ap pair (sym p ∙ q) in (ap (λ (x : ℕ × ℕ). x.0) both, ap (λ (x : ℕ × ℕ). x.1) both)

module _ (limit : ℕ) (s : State) (library from : ℕ) where
  reply_is : (why : Option Why) → why_refused limit s library from ≡ why → reply_to limit s library from ≡ reply_by s why
  reply_is why is = ap (reply_by s) is

  pub when_granted : (reply_to limit s library from ≡ ToGranted (lease_of s + 1) s.inbound) ↔ (CanTake s library × (lease_of s ≢ limit) × (from ≤ s.inbound))
  when_granted = elim (outcome limit s library from) [
    | owned active why ↦ let is = reply_is _ why in (λ r. absurd cc, λ c. absurd (omega (arith, active, c.0.nobody_owns)))
    | kept_for heir until free reserved other why ↦ let is = reply_is _ why in (λ r. absurd cc, λ c. absurd (other (open_to s.reserved heir until library reserved c.0.is_open)))
    | spent can same why ↦ let is = reply_is _ why in (λ r. absurd cc, λ c. absurd (c.1 same))
    | missing can left past why ↦ let is = reply_is _ why in (λ r. absurd cc, λ c. absurd (omega (arith, past, c.2)))
    | granted can left there why ↦ (λ r. (can, left, there), λ c. reply_is _ why)
  ]

  pub when_owned : (reply_to limit s library from ≡ ToRefused (OtherOwner (owner_of s) (lease_of s))) ↔ IsActive s
  when_owned = elim (outcome limit s library from) [
    | owned active why ↦ (λ r. active, λ c. reply_is _ why)
    | kept_for heir until free reserved other why ↦ let is = reply_is _ why in (λ r. absurd cc, λ c. absurd (omega (arith, c, free)))
    | spent can same why ↦ let is = reply_is _ why in (λ r. absurd cc, λ c. absurd (omega (arith, c, can.nobody_owns)))
    | missing can left past why ↦ let is = reply_is _ why in (λ r. absurd cc, λ c. absurd (omega (arith, c, can.nobody_owns)))
    | granted can left there why ↦ let is = reply_is _ why in (λ r. absurd cc, λ c. absurd (omega (arith, c, can.nobody_owns)))
  ]

  pub when_reserved : (for_library until : ℕ) → (reply_to limit s library from ≡ ToRefused (Reserved for_library until)) ↔ ((owner_of s ≡ 0) × (s.reserved ≡ Some (for_library, until)) × (for_library ≢ library))
  when_reserved for_library until = elim (outcome limit s library from) [
    | owned active why ↦ let is = reply_is _ why in (λ r. absurd cc, λ c. absurd (omega (arith, active, c.0)))
    | kept_for heir later free reserved other why ↦
        let is = reply_is _ why in (
          λ r. let who : heir ≡ for_library = cc in let when : later ≡ until = cc in (free, reserved ∙ ap (λ x. Some (x, later)) who ∙ ap (λ x. Some (for_library, x)) when, subst (λ x. x ≢ library) who other),
          λ c. let same = same_heir s.reserved heir later for_library until reserved c.1 in is ∙ ap (λ x. ToRefused (Reserved x later)) same.0 ∙ ap (λ x. ToRefused (Reserved for_library x)) same.1,
        )
    | spent can same why ↦ let is = reply_is _ why in (λ r. absurd cc, λ c. absurd (c.2 (open_to s.reserved for_library until library c.1 can.is_open)))
    | missing can left past why ↦ let is = reply_is _ why in (λ r. absurd cc, λ c. absurd (c.2 (open_to s.reserved for_library until library c.1 can.is_open)))
    | granted can left there why ↦ let is = reply_is _ why in (λ r. absurd cc, λ c. absurd (c.2 (open_to s.reserved for_library until library c.1 can.is_open)))
  ]

  pub when_spent : (reply_to limit s library from ≡ ToRefused (LeasesSpent (lease_of s))) ↔ (CanTake s library × (lease_of s ≡ limit))
  when_spent = elim (outcome limit s library from) [
    | owned active why ↦ let is = reply_is _ why in (λ r. absurd cc, λ c. absurd (omega (arith, active, c.0.nobody_owns)))
    | kept_for heir until free reserved other why ↦ let is = reply_is _ why in (λ r. absurd cc, λ c. absurd (other (open_to s.reserved heir until library reserved c.0.is_open)))
    | spent can same why ↦ (λ r. (can, same), λ c. reply_is _ why)
    | missing can left past why ↦ let is = reply_is _ why in (λ r. absurd cc, λ c. absurd (left c.1))
    | granted can left there why ↦ let is = reply_is _ why in (λ r. absurd cc, λ c. absurd (left c.1))
  ]

  pub when_missing : (reply_to limit s library from ≡ ToRefused (MissingMessages from s.inbound)) ↔ (CanTake s library × (lease_of s ≢ limit) × (s.inbound < from))
  when_missing = elim (outcome limit s library from) [
    | owned active why ↦ let is = reply_is _ why in (λ r. absurd cc, λ c. absurd (omega (arith, active, c.0.nobody_owns)))
    | kept_for heir until free reserved other why ↦ let is = reply_is _ why in (λ r. absurd cc, λ c. absurd (other (open_to s.reserved heir until library reserved c.0.is_open)))
    | spent can same why ↦ let is = reply_is _ why in (λ r. absurd cc, λ c. absurd (c.1 same))
    | missing can left past why ↦ (λ r. (can, left, past), λ c. reply_is _ why)
    | granted can left there why ↦ let is = reply_is _ why in (λ r. absurd cc, λ c. absurd (omega (arith, there, c.2)))
  ]

-- what a granted request found
pub granted_finds : (limit : ℕ) (s : State) (library from lease start : ℕ) → reply_to limit s library from ≡ ToGranted lease start → (owner_of s ≡ 0) × (lease_of s ≢ limit) × (lease ≡ lease_of s + 1) × (start ≡ s.inbound) × (from ≤ s.inbound)
granted_finds limit s library from lease start is = elim (outcome limit s library from) [
  | owned active why ↦ let other = ap (reply_by s) why in absurd (cc)
  | kept_for heir until free reserved other why ↦ let other = ap (reply_by s) why in absurd (cc)
  | spent can same why ↦ let other = ap (reply_by s) why in absurd (cc)
  | missing can left past why ↦ let other = ap (reply_by s) why in absurd (cc)
  | granted can left there why ↦ let other = ap (reply_by s) why in (can.nobody_owns, left, (cc), (cc), there)
]
