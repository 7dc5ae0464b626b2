-- What the lines of a report so far have told, as far as later lines depend on it.
use Rattle.std.specs.Prelude.{ℕ, ◌==◌, ◌&&◌, not, List, [], Bool, false, Option, Some, None}
use Rattle.std.specs.List.{list_any}
use Rattle.std.specs.Ordering.{nat_cmp, ordering_then}
use Rattle.std.specs.declared.cmp.Ordering.{Ordering}
use Rattle.std.specs.BTreeMap.{insert_entry, is_at}
use Rattle.std.specs.BTreeSet.{insert_key}
use Rattle.std.specs.Map.{lookup, remove_entry}
use Rattle.lease_core.specs.Holdings.{holdings_of}
use Rattle.lease_core.specs.State.{State, state_of, owner_of, lease_of, sent_in_all}
use Rattle.lease_core.specs.declared.entry.Entry.{Entry}
use Rattle.lease_core.specs.declared.entry.Holding.{Holding}
use Rattle.lease_core.specs.declared.entry.Why.{Why}
use Rattle.lease_core.specs.declared.entry.Why.TheVariants as causes
use Rattle.journal_audit.specs.Sessions.{SessionSeen, no_session}
use Rattle.journal_audit.specs.declared.line.Header.{Header}
use Rattle.journal_audit.specs.declared.line.Outcome.{Outcome}
use Rattle.journal_audit.specs.declared.line.Outcome.TheVariants.{Granted, Refused}
use Rattle.journal_audit.specs.declared.line.Reply.{Reply}
use Rattle.journal_audit.specs.declared.place.Part.{Part}
use Rattle.journal_audit.specs.declared.place.Part.TheVariants as part
use Rattle.journal_audit.specs.declared.place.Place.{Place}
use Rattle.journal_audit.specs.declared.place.Place.TheVariants as place

-- what a session's head says where there is none
abbrev pub no_header : Header
no_header = record { owner = 0; lease = 0; inbound = 0; outbound = 0 }

-- What entries come to, as a session's head says it.
unfoldable pub header_of : State → Header
header_of s = record { owner = owner_of s; lease = lease_of s; inbound = s.inbound; outbound = sent_in_all s }

-- The part of the report that was last, with the journal of the session whose lines come: its entries, and how many leases the session
-- can be given; or, once its entries are all told, its holdings and what its head has to say.
pub record PlaceSeen : Type 0 where
  pub part : Part
  pub limit : ℕ
  pub entries : List Entry
  pub holdings : List Holding
  pub summary : Header

abbrev pub bare_place : Part → PlaceSeen
bare_place p = record { part = p; limit = 0; entries = []; holdings = []; summary = no_header }

abbrev pub entries_place : ℕ → List Entry → PlaceSeen
entries_place limit es = record { part = part.Entries; limit = limit; entries = es; holdings = []; summary = no_header }

abbrev pub logs_place : List Entry → PlaceSeen
logs_place es = record { part = part.Logs; limit = 0; entries = []; holdings = holdings_of es; summary = header_of (state_of es) }

abbrev pub place_seen : Place → PlaceSeen
place_seen place.Start = bare_place part.Start
place_seen place.Head = bare_place part.Head
place_seen (place.Entries journal) = entries_place journal.leases journal.entries
place_seen (place.Logs journal) = logs_place journal.entries
place_seen place.Strays = bare_place part.Strays
place_seen place.Connections = bare_place part.Connections
place_seen place.Calls = bare_place part.Calls
place_seen place.Done = bare_place part.Done

-- by the first number, and then by the second
abbrev pub pair_cmp : ℕ × ℕ → ℕ × ℕ → Ordering
pair_cmp a b = ordering_then (nat_cmp a.0 b.0) (nat_cmp a.1 b.1)

-- The answers to requests, each by the library and the number of its request. Of two answers to one the last counts.
abbrev pub Replies : Type 0
Replies = List ((ℕ × ℕ) × Reply)

abbrev pub replies_with : ℕ → ℕ → Reply → Replies → Replies
replies_with library nr reply replies = insert_entry pair_cmp replies (library, nr) reply

abbrev pub replies_without : ℕ → ℕ → Replies → Replies
replies_without library nr replies = remove_entry (is_at (pair_cmp (library, nr))) replies

abbrev pub reply_in : Replies → ℕ → ℕ → Option Reply
reply_in replies library nr = lookup (is_at (pair_cmp (library, nr))) replies

-- The connections to which sessions were bound: each with its session, and by itself.
pub record Binds : Type 0 where
  pub pairs : List (ℕ × ℕ)
  pub connections : List ℕ

abbrev pub binds_with : ℕ → ℕ → Binds → Binds
binds_with c s binds = record { pairs = insert_key pair_cmp binds.pairs (c, s); connections = insert_key nat_cmp binds.connections c }

-- Where the report is; of the last session its number, its head, how many of its holdings were told, and what is kept of it; what is kept of the
-- sessions before it; the binds and the answers of all journals, of the answers those that no poll has told yet; the least number that
-- the next connection may have, and how many bytes its `wrote` line is still to tell; the last library, how many of its requests were
-- numbered, and how many messages its polls are still to tell, if it isn't too many already.
pub record Seen : Type 0 where
  pub place : PlaceSeen
  pub number : ℕ
  pub header : Header
  pub held : ℕ
  pub current : SessionSeen
  pub sessions : List SessionSeen
  pub binds : Binds
  pub replies : Replies
  pub least : ℕ
  pub unwritten : ℕ
  pub library : ℕ
  pub asked : ℕ
  pub unread : Option ℕ

-- before the first line
abbrev pub nothing_seen : Seen
nothing_seen = record {
  place = bare_place part.Start;
  number = 0;
  header = no_header;
  held = 0;
  current = no_session;
  sessions = [];
  binds = record { pairs = []; connections = [] };
  replies = [];
  least = 0;
  unwritten = 0;
  library = 0;
  asked = 0;
  unread = None;
}

-- Answers are compared.

abbrev pub same_why : Why → Why → Bool
same_why (causes.UnknownSession s) (causes.UnknownSession t) = s == t
same_why (causes.OtherOwner owner lease) (causes.OtherOwner o l) = (owner == o) && (lease == l)
same_why (causes.Reserved library until) (causes.Reserved l u) = (library == l) && (until == u)
same_why (causes.LeasesSpent lease) (causes.LeasesSpent l) = lease == l
same_why (causes.MissingMessages asked logged) (causes.MissingMessages a l) = (asked == a) && (logged == l)
same_why _ _ = false

abbrev pub same_outcome : Outcome → Outcome → Bool
same_outcome (Granted lease from start) (Granted l f s) = (lease == l) && (from == f) && (start == s)
same_outcome (Refused why) (Refused other) = same_why why other
same_outcome _ _ = false

abbrev pub same_reply : Reply → Reply → Bool
same_reply a b = (a.s == b.s) && same_outcome a.outcome b.outcome

-- this answer is there
unfoldable pub is_reply : Reply → Option Reply → Bool
is_reply reply None = false
is_reply reply (Some kept) = same_reply kept reply

-- The connection was bound to the session, or to none.
abbrev pub fits_binds : Binds → ℕ → Option ℕ → Bool
fits_binds binds c (Some s) = list_any (is_at (pair_cmp (c, s))) binds.pairs
fits_binds binds c None = not (list_any (is_at (nat_cmp c)) binds.connections)
