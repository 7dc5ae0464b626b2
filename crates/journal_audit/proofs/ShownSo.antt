-- A report with the verdict Yes shows that its reads are prefixes, and its sends and releases the libraries' own.
use Rattle.std.proofs.Common.{◌≡◌, ℕ, suc, zero, ◌+◌, ◌-◌, inl, inr, List, [], ◌∷◌, length, take, drop, flat_map, Some, refl, sym, ap, ◌∙◌, subst, arith, slice_get, slice_index_or, Contains}
use Rattle.std.proofs.lemmas.Option.{none-some}
use Rattle.lease_core.specs.declared.entry.Entry.TheVariants as entries
use Rattle.lease_core.specs.declared.entry.Holding.{Holding}
use Rattle.journal_audit.specs.Called.{Called, Reading, called_in, readings}
use Rattle.journal_audit.specs.Cut.{cut_of}
use Rattle.journal_audit.specs.Journals.{Journal, JournalsAreLawful, no_journal, journals_in, IsLawful, AreLawful}
use Rattle.journal_audit.specs.Sessions.{no_session}
use Rattle.journal_audit.specs.Shown.{OfEachRight, ReadsArePrefixes, DeedsAreOwn, BodiesAreOwn, IsPrefix, own_deeds, bodies_sent, read_from}
use Rattle.journal_audit.specs.declared.session.Deed.{Deed}
use Rattle.journal_audit.specs.declared.session.Reader.{Reader}
use Rattle.journal_audit.proofs.CallsTell.{IsReadOn, at_session, owed_in, deed_kept, body_kept}
use Rattle.journal_audit.proofs.Grants.{Grant, grant_of, spans, grants_in, facts_of_run, spans_of_run, numbered_at, grant_entry, reader_span}
use Rattle.journal_audit.proofs.Owed.{owed_behind, deeds_kept, bodies_kept}
use Rattle.journal_audit.proofs.Told.{whole, all_whole, reports_tell}

prefix : (j : Journal) → IsLawful j → (lease : ℕ) (read : List Reading) → IsReadOn (whole no_session j) lease read → IsPrefix j lease read
prefix j lawful lease read on =
    let facts = facts_of_run lawful.limit j.entries lawful.run in
    let one = reader_span j.holdings (lease - 1) on.reader on.at in
    let grants : spans j.holdings ≡ grants_in j.entries = ap (λ (hs : List Holding). spans hs) lawful.holdings ∙ spans_of_run j.entries facts in
    let at : slice_get (grants_in j.entries) (lease - 1) ≡ Some (grant_of one.holding) = ap (λ (gs : List Grant). slice_get gs (lease - 1)) (sym grants) ∙ one.span in
    let numbered : one.holding.lease ≡ 0 + (lease - 1) + 1 = numbered_at (grants_in j.entries) 0 (lease - 1) (grant_of one.holding) facts.numbered at in
    let some = on.some in
    let is : one.holding.lease ≡ lease = omega arith in
    let grant = grant_entry j.entries (lease - 1) (grant_of one.holding) at in
    let from : one.holding.from ≡ on.reader.next = ap (λ (r : Reader). r.next) one.reader in
    let end : one.holding.end ≡ on.reader.end = ap (λ (r : Reader). r.end) one.reader in
    record {
      holding = one.holding;
      held = one.held;
      lease_is = is;
      nr = grant.nr;
      granted = subst (λ (l : ℕ). Contains j.entries (entries.Granted one.holding.library grant.nr l one.holding.from one.holding.start)) is grant.has;
      within = (let within = on.within in omega arith);
      are = subst (λ (r : Reader). read ≡ read_from r.library r.next (take (length read) (drop r.next j.inbound))) (sym one.reader) on.are;
    }

record HasRead (js : List Journal) (s lease : ℕ) (read : List Reading) : Type 0 where
  pub session : Journal
  pub at : slice_get js s ≡ Some session
  pub is_prefix : IsPrefix session lease read

reads_at : (js : List Journal) (s lease : ℕ) (calls : List Called) (read : List Reading) → AreLawful js → IsReadOn (at_session (all_whole js) s) lease read → HasRead js s lease read
reads_at [] s lease calls read lawful on = absurd (none-some on.reader on.at)
reads_at (j ∷ js) zero lease calls read lawful on = record { session = j; at = refl; is_prefix = prefix j lawful.0 lease read on }
reads_at (j ∷ js) (suc s) lease calls read lawful on = (let one = reads_at js s lease calls read lawful.1 on in record { session = one.session; at = one.at; is_prefix = one.is_prefix })

pub reads_are_prefixes : JournalsAreLawful → OfEachRight ReadsArePrefixes
reads_are_prefixes lawful text verdict s lease =
    let lines = (cut_of text).lines in
    let tells = reports_tell text verdict in
    elim (tells.reads s lease) [
      | inl none ↦ inl none
      | inr on ↦ (
          let one = reads_at (journals_in lines) s lease (called_in 0 lines) (readings s lease (called_in 0 lines)) (lawful text verdict) on in
          inr (record { session = one.session; at = one.at; is_prefix = one.is_prefix }))
    ]

deeds_of_one : (j : Journal) (library : ℕ) → IsLawful j → owed_in deed_kept (whole no_session j) library ≡ own_deeds library j.entries
deeds_of_one j library lawful =
    let facts = facts_of_run lawful.limit j.entries lawful.run in
    ap (λ (ds : List Deed). flat_map (deed_kept j.outbound library) ds) (owed_behind j.entries library facts.within)
    ∙ deeds_kept j.outbound j.entries 0 library

deeds_at : (js : List Journal) (s library : ℕ) → AreLawful js → owed_in deed_kept (at_session (all_whole js) s) library ≡ own_deeds library (slice_index_or js s no_journal).entries
deeds_at [] s library lawful = ap (λ (ds : List Deed). flat_map (deed_kept [] library) ds) (owed_behind [] library tt)
deeds_at (j ∷ js) zero library lawful = deeds_of_one j library lawful.0
deeds_at (j ∷ js) (suc s) library lawful = deeds_at js s library lawful.1

pub deeds_are_own : JournalsAreLawful → OfEachRight DeedsAreOwn
deeds_are_own lawful text verdict library s = (reports_tell text verdict).deeds library s ∙ deeds_at (journals_in (cut_of text).lines) s library (lawful text verdict)

bodies_of_one : (j : Journal) (library : ℕ) → IsLawful j → owed_in body_kept (whole no_session j) library ≡ bodies_sent library j
bodies_of_one j library lawful =
    let facts = facts_of_run lawful.limit j.entries lawful.run in
    ap (λ (ds : List Deed). flat_map (body_kept j.outbound library) ds) (owed_behind j.entries library facts.within)
    ∙ bodies_kept j.outbound j.entries 0 library

bodies_at : (js : List Journal) (s library : ℕ) → AreLawful js → owed_in body_kept (at_session (all_whole js) s) library ≡ bodies_sent library (slice_index_or js s no_journal)
bodies_at [] s library lawful = ap (λ (ds : List Deed). flat_map (body_kept [] library) ds) (owed_behind [] library tt)
bodies_at (j ∷ js) zero library lawful = bodies_of_one j library lawful.0
bodies_at (j ∷ js) (suc s) library lawful = bodies_at js s library lawful.1

pub bodies_are_own : JournalsAreLawful → OfEachRight BodiesAreOwn
bodies_are_own lawful text verdict library s = (reports_tell text verdict).bodies library s ∙ bodies_at (journals_in (cut_of text).lines) s library (lawful text verdict)
