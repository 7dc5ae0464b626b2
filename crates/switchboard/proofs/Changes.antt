-- What each kind of change keeps of a board.
use Rattle.std.proofs.Common.{◌≡◌, ◌≢◌, ℕ, ◌+◌, ◌<◌, List, [], ◌∷◌, ◌++◌, length, get_or, Option, None, Some, IsNone, refl, sym, ap, subst, ◌∙◌, arith}
use Rattle.std.proofs.Math.ListN.{get_or-append}
use Rattle.std.proofs.Math.Seq.{get_or-append_seam}
use Rattle.std.proofs.lemmas.Bool.{false≢true}
use Rattle.std.proofs.lemmas.List.{get_or-set_other, get_or-set_same, length-set, length_push}
use Rattle.connection_core.specs.Connection.{ConnectionState, fresh_dial}
use Rattle.connection_core.specs.Outgoing.{no_outgoing}
use Rattle.connection_core.specs.Items.{AreItemsOf}
use Rattle.lease_core.specs.declared.entry.Entry.{Entry}
use Rattle.lease_core.specs.declared.entry.Entry.TheVariants.{Leave}
use Rattle.session_core.specs.declared.causes.Cause.{Cause}
use Rattle.session_book.specs.Book.{Book, IsSameSession, with_outbox}
use Rattle.session_book.specs.Texts.{IsTextOf}
use Rattle.switchboard.specs.Board.{Board, OutboxChanges, book_at, connection_at, desk_at, desk_with, names_at, no_connection, outgoing_at, place_at, with_connection, with_connections}
use Rattle.switchboard.specs.Happenings.{BindsTo, Dials, EndsBound, IsNewNumber, SessionGoesOn}
use Rattle.switchboard.specs.Ready.{HasTextOf}
use Rattle.switchboard.specs.Sound.{IsPlaced, IsPlugged, IsSameLine, IsSound, bound_of}
use Rattle.switchboard.proofs.Sounds.{accept_sound, bind_sound, book_there, desk_sound, dial_sound, end_sound, line_there, none_some, outbox_lines, place_here, place_there, place_within, plug_connections, plug_sessions, same_number}
use Rattle.switchboard.proofs.TextLaws.{KeepsTexts, OpensText, TextLaws}
use Rattle.switchboard.proofs.Turns.{AreOn, AreOnBut, IsNearly, Turns, all_but, on_all, on_but, set_books, set_sessions, turned}

pub none_is : {T : Type 0} (o : Option T) → IsNone o → o ≡ None
none_is None is = refl
none_is (Some x) is = absurd (false≢true (sym is))

-- a session that was there is there
there : {old new s j : ℕ} → new ≡ old → s ≡ j → s < old → j < new
there {old} {new} {s} {j} stays same within = subst (λ n. j < n) (sym stays) (subst (λ i. i < old) same within)

-- the names of a session stay as they are
pub same_names : (old new : Board) (s : ℕ) → IsSameSession (book_at old s) (book_at new s) → names_at old s ≡ names_at new s
same_names old new s same = ap (λ names. record { us = names.us; them = names.them }) (sym same.names)

-- one session goes on, with what waits on its connection
module _ (before : ℕ → List Entry) (s : ℕ) (old new : Board) (goes : SessionGoesOn s old new) where
  books_there : (j : ℕ) → j ≢ s → book_at new j ≡ book_at old j
  books_there = set_books s old new goes.others.sessions

  places_stay : (j : ℕ) → place_at new j ≡ place_at old j
  places_stay j = ap (λ places. get_or places j None) goes.others.places

  sessions_stay : length new.sessions ≡ length old.sessions
  sessions_stay = set_sessions s old new goes.others.sessions

  stays_sound : IsSound old → IsSound new
  stays_sound sound = desk_sound s (place_at old s) old new goes.within (λ k at. place_within old s k sound goes.within at) goes.others goes.bound sound

  pub goes_on_on : AreOn old → AreOn new
  goes_on_on on =
      on_all s new (λ i within at. goes.on (on s i goes.within (sym (places_stay s) ∙ at)))
      (on_but s old new sessions_stay books_there (λ j other. places_stay j) (all_but s old on))

  module _ (is : IsNearly before old) (keeps : KeepsTexts (desk_at old s) (desk_at new s)) where
    -- the other connections of the session
    text_aside : (i : ℕ) → bound_of (book_at old s) ≢ Some (connection_at old i).number → HasTextOf before old s i
        → IsTextOf (names_at new s) (before s) (connection_at old i).number (book_at new s) (connection_at old i).out.outgoing
    text_aside i apart was =
        keeps.others (names_at new s) (before s) (connection_at old i).number (connection_at old i).out.outgoing apart
        (subst (λ names. IsTextOf names (before s) (connection_at old i).number (book_at old s) (connection_at old i).out.outgoing) (same_names old new s goes.lawful.same) was)

    -- a session that is bound to none
    turns_unplaced : new.connections ≡ old.connections → bound_of (book_at old s) ≡ None → Turns before s (length new.connections) old new
    turns_unplaced same free = record {
      sound = stays_sound is.sound;
      sessions = sessions_stay;
      books_there = books_there;
      lawful = λ within. goes.lawful.lawful;
      entries = λ within. keeps.entries;
      lines_there = λ i within other. (subst (λ cs. i < length cs) same within, ap (λ cs. get_or cs i no_connection) same);
      number = λ i within other own. absurd (omega arith);
      named = λ j within names. absurd (omega arith);
      text = λ j within names. absurd (omega arith);
      texts = λ i within other names was. text_aside i (λ e. none_some _ (sym free ∙ e)) was;
      silent = λ within none. absurd (omega arith);
    }

    -- one that is bound to the connection at this place
    module _ (k : ℕ) (at : place_at old s ≡ Some k) where
      plugged : IsPlugged old s k
      plugged = subst (λ place. IsPlaced old s place) at (is.sound.placed s goes.within)

      changes : OutboxChanges (Some k) old new
      changes = subst (λ place. OutboxChanges place old new) at goes.others.connections

      connections_stay : length new.connections ≡ length old.connections
      connections_stay = (outbox_lines (Some k) old new changes (λ i e. subst (λ n. n < length old.connections) (same_number k i e) plugged.within)).0

      line_stays : (i : ℕ) → IsSameLine (connection_at old i) (connection_at new i)
      line_stays i = (outbox_lines (Some k) old new changes (λ j e. subst (λ n. n < length old.connections) (same_number k j e) plugged.within)).1 i

      lines_there : (i : ℕ) → i ≢ k → connection_at new i ≡ connection_at old i
      lines_there i other =
          ap (λ (cs : List ConnectionState). get_or cs i no_connection) changes.0 ∙ get_or-set_other old.connections k i (record (connection_at old k) { out = (connection_at new k).out }) no_connection other

      text_here : HasTextOf before new s k
      text_here =
          let number = (connection_at old k).number in
          let was : IsTextOf (names_at new s) (before s) number (book_at old s) (outgoing_at old (place_at old s)) =
          subst (λ names. IsTextOf names (before s) number (book_at old s) (outgoing_at old (place_at old s))) (same_names old new s goes.lawful.same)
          (subst (λ place. IsTextOf (names_at old s) (before s) number (book_at old s) (outgoing_at old place)) (sym at) (is.texts s k plugged.within plugged.names)) in
          subst (λ c. IsTextOf (names_at new s) (before s) c (book_at new s) (connection_at new k).out.outgoing) (sym (line_stays k).number)
          (subst (λ place. IsTextOf (names_at new s) (before s) number (book_at new s) (outgoing_at new place)) (places_stay s ∙ at) (keeps.text (names_at new s) (before s) number plugged.bound was))

      turns_placed : Turns before s k old new
      turns_placed = record {
        sound = stays_sound is.sound;
        sessions = sessions_stay;
        books_there = books_there;
        lawful = λ within. goes.lawful.lawful;
        entries = λ within. keeps.entries;
        lines_there = λ i within other. (subst (λ n. i < n) connections_stay within, lines_there i other);
        number = λ i within other own same. other (is.numbers i k within plugged.within (sym same ∙ (line_stays k).number));
        named = λ j within names. there sessions_stay (same_number s j (sym plugged.names ∙ sym (line_stays k).session ∙ names)) goes.within;
        text = λ j within names. subst (λ n. HasTextOf before new n k) (same_number s j (sym plugged.names ∙ sym (line_stays k).session ∙ names)) text_here;
        texts = λ i within other names was. text_aside i (λ e. other (is.numbers i k within plugged.within (sym (same_number _ _ (sym plugged.bound ∙ e))))) was;
        silent = λ within none. absurd (none_some s (sym none ∙ (line_stays k).session ∙ plugged.names));
      }

    nearly_at : (place : Option ℕ) → place_at old s ≡ place → IsNearly before new
    nearly_at None at = turned before s (length new.connections) old new is
        (turns_unplaced (subst (λ place. OutboxChanges place old new) at goes.others.connections) (subst (λ place. IsPlaced old s place) at (is.sound.placed s goes.within)))
    nearly_at (Some k) at = turned before s k old new is (turns_placed k at)

    pub goes_on_nearly : IsNearly before new
    goes_on_nearly = nearly_at (place_at old s) refl

-- one connection changes, and no session
module _ (before : ℕ → List Entry) (k : ℕ) (c : ConnectionState) (board : Board) (within : k < length board.connections)
    (number : c.number ≡ (connection_at board k).number) (session : c.session ≡ (connection_at board k).session) where
  pub connection_nearly : IsSound (with_connection k c board)
      → ((s : ℕ) → (connection_at board k).session ≡ Some s → HasTextOf before board s k → IsTextOf (names_at board s) (before s) (connection_at board k).number (book_at board s) c.out.outgoing)
      → ((connection_at board k).session ≡ None → (connection_at board k).out.outgoing ≡ no_outgoing → c.out.outgoing ≡ no_outgoing)
      → IsNearly before board → IsNearly before (with_connection k c board)
  connection_nearly sound texts silent is =
      let new = with_connection k c board in
      let here : connection_at new k ≡ c = get_or-set_same board.connections k c no_connection within in
      let names_here = λ (place : Option ℕ) (e : (connection_at new k).session ≡ place). sym session ∙ sym (ap (λ (x : ConnectionState). x.session) here) ∙ e in
      turned before (length board.sessions) k board new is
      (record {
        sound = sound;
        sessions = refl;
        books_there = λ j other. refl;
        lawful = λ small. absurd (omega arith);
        entries = λ small. absurd (omega arith);
        lines_there = λ i small other. (subst (λ n. i < n) (length-set board.connections k c) small, get_or-set_other board.connections k i c no_connection other);
        number = λ i small other own same. other (is.numbers i k small within (sym same ∙ ap (λ (x : ConnectionState). x.number) here ∙ number));
        named = λ j small names. is.named j k within (names_here (Some j) names);
        text = λ j small names.
            let named = names_here (Some j) names in
            subst (λ (x : ConnectionState). IsTextOf (names_at board j) (before j) x.number (book_at board j) x.out.outgoing) (sym here)
            (subst (λ n. IsTextOf (names_at board j) (before j) n (book_at board j) c.out.outgoing) (sym number) (texts j named (is.texts j k within named)));
        texts = λ i small other names was. was;
        silent = λ small none. (let unnamed = names_here None none in ap (λ (x : ConnectionState). x.out.outgoing) here ∙ silent unnamed (is.silent k within unnamed));
      })

-- a session is bound to a connection
module _ (g : TextLaws) (before : ℕ → List Entry) (s k : ℕ) (body : List ℕ) (at : ℕ) (old new : Board) (binds : BindsTo s k body at old new) where
  unplaced : (place : Option ℕ) → IsPlaced old s place → place ≡ None
  unplaced None is = refl
  unplaced (Some i) is = absurd (none_some _ (sym binds.free ∙ is.bound))

  bind_free : IsSound old → place_at old s ≡ None
  bind_free sound = unplaced (place_at old s) (sound.placed s binds.within)

  bind_number : (connection_at new k).number ≡ (connection_at old k).number
  bind_number = ap (λ (c : ConnectionState). c.number) binds.connection

  bind_names : (connection_at new k).session ≡ Some s
  bind_names = ap (λ (c : ConnectionState). c.session) binds.connection

  bound_sound : IsSound old → IsSound new
  bound_sound sound =
      bind_sound s k old new binds.within binds.connection_within binds.plugged (bind_free sound) (none_is _ binds.unbound) bind_names
      (ap (λ (c : ConnectionState). c.cause) binds.connection ∙ none_is _ binds.stands) (binds.bound ∙ ap (λ n. Some n) (sym bind_number)) sound

  module _ (is : IsNearly before old) where
    opens : OpensText (connection_at old k).number (desk_with old s (Some k)) (desk_with new s (Some k))
    opens = subst (λ desk. OpensText (connection_at old k).number (desk_with old s (Some k)) desk) (sym binds.desk)
        (g.binding (connection_at old k).number at body (desk_with old s (Some k)) (is.books s binds.within).is_book)

    none_queued : AreItemsOf (names_at new s) (book_at old s).outbound [] (connection_at old k).out.outgoing
    none_queued = subst (λ out. AreItemsOf (names_at new s) (book_at old s).outbound [] out) (sym (is.silent k binds.connection_within (none_is _ binds.unbound))) (g.first (names_at new s) (book_at old s).outbound)

    bind_text : HasTextOf before new s k
    bind_text =
        let go_on = is.entries s binds.within in
        subst (λ c. IsTextOf (names_at new s) (before s) c (book_at new s) (connection_at new k).out.outgoing) (sym bind_number) (opens.text (names_at new s) (before s) go_on.added go_on.are none_queued)

    pub bind_nearly : IsNearly before new
    bind_nearly =
        let sound = is.sound in
        turned before s k old new is
        (record {
          sound = bound_sound sound;
          sessions = plug_sessions s k (Some k) old new binds.within binds.connection_within binds.plugged sound;
          books_there = book_there s k (Some k) old new binds.within binds.connection_within binds.plugged sound;
          lawful = λ within. binds.lawful.lawful;
          entries = λ within. opens.entries;
          lines_there = λ i within other. (
            subst (λ n. i < n) (plug_connections s k (Some k) old new binds.within binds.connection_within binds.plugged sound) within,
            line_there s k (Some k) old new binds.within binds.connection_within binds.plugged sound i other,
          );
          number = λ i within other own same. other (is.numbers i k within binds.connection_within (sym same ∙ bind_number));
          named = λ j within names. there (plug_sessions s k (Some k) old new binds.within binds.connection_within binds.plugged sound) (same_number s j (sym bind_names ∙ names)) binds.within;
          text = λ j within names. subst (λ n. HasTextOf before new n k) (same_number s j (sym bind_names ∙ names)) bind_text;
          texts = λ i within other names was.
              opens.others (names_at new s) (before s) (connection_at old i).number (connection_at old i).out.outgoing (λ e. other (is.numbers i k within binds.connection_within (sym e)))
              (subst (λ ns. IsTextOf ns (before s) (connection_at old i).number (book_at old s) (connection_at old i).out.outgoing) (same_names old new s binds.lawful.same) was);
          silent = λ within none. absurd (none_some s (sym none ∙ bind_names));
        })

    -- the others are on as they were
    pub bind_on : AreOn old → AreOnBut s new
    bind_on on =
        let sound = is.sound in
        on_but s old new (plug_sessions s k (Some k) old new binds.within binds.connection_within binds.plugged sound)
        (book_there s k (Some k) old new binds.within binds.connection_within binds.plugged sound)
        (place_there s k (Some k) old new binds.within binds.connection_within binds.plugged sound) (all_but s old on)

-- a session leaves its connection, which ends
module _ (g : TextLaws) (before : ℕ → List Entry) (s k : ℕ) (cause : Cause) (old new : Board) (ends : EndsBound s k cause old new) (is : IsNearly before old) where
  end_within : k < length old.connections
  end_within = place_within old s k is.sound ends.within ends.placed

  end_plugged : IsPlugged old s k
  end_plugged = subst (λ place. IsPlaced old s place) ends.placed (is.sound.placed s ends.within)

  end_number : (connection_at new k).number ≡ (connection_at old k).number
  end_number = ap (λ (c : ConnectionState). c.number) ends.connection

  end_names : (connection_at new k).session ≡ Some s
  end_names = ap (λ (c : ConnectionState). c.session) ends.connection ∙ end_plugged.names

  has_cause : (connection_at new k).cause ≢ None
  has_cause e = none_some _ (sym e ∙ ap (λ (c : ConnectionState). c.cause) ends.connection)

  -- the text of a connection of the session, as it was
  left_text : (i : ℕ) → HasTextOf before old s i → IsTextOf (names_at new s) (before s) (connection_at old i).number (book_at new s) (connection_at old i).out.outgoing
  left_text i was =
      let c = (connection_at old i).number in
      let out = (connection_at old i).out.outgoing in
      subst (λ book. IsTextOf (names_at new s) (before s) c book out) (sym ends.book)
      (g.leave (names_at new s) (before s) c (connection_at old k).number (book_at old s) out (subst (λ ns. IsTextOf ns (before s) c (book_at old s) out) (same_names old new s ends.lawful.same) was))

  pub end_nearly : IsNearly before new
  end_nearly =
      let sound = is.sound in
      turned before s k old new is
      (record {
        sound = end_sound s k old new ends.within ends.unplugged ends.placed has_cause ends.bound sound;
        sessions = plug_sessions s k None old new ends.within end_within ends.unplugged sound;
        books_there = book_there s k None old new ends.within end_within ends.unplugged sound;
        lawful = λ within. ends.lawful.lawful;
        entries = λ within. record { added = Leave (connection_at old k).number ∷ []; are = ap (λ (book : Book). book.entries) ends.book };
        lines_there = λ i within other. (
          subst (λ n. i < n) (plug_connections s k None old new ends.within end_within ends.unplugged sound) within,
          line_there s k None old new ends.within end_within ends.unplugged sound i other,
        );
        number = λ i within other own same. other (is.numbers i k within end_within (sym same ∙ end_number));
        named = λ j within names. there (plug_sessions s k None old new ends.within end_within ends.unplugged sound) (same_number s j (sym end_names ∙ names)) ends.within;
        text = λ j within names.
            subst (λ n. HasTextOf before new n k) (same_number s j (sym end_names ∙ names))
            (subst (λ c. IsTextOf (names_at new s) (before s) c (book_at new s) (connection_at new k).out.outgoing) (sym end_number)
            (subst (λ out. IsTextOf (names_at new s) (before s) (connection_at old k).number (book_at new s) out) (sym (ap (λ (c : ConnectionState). c.out.outgoing) ends.connection))
            (left_text k (is.texts s k end_within end_plugged.names))));
        texts = λ i within other names was. left_text i was;
        silent = λ within none. absurd (none_some s (sym none ∙ end_names));
      })

  pub end_on : AreOnBut s old → AreOn new
  end_on on =
      let sound = is.sound in
      on_all s new (λ i within at. absurd (none_some i (sym (place_here s k None old new ends.within end_within ends.unplugged sound) ∙ at)))
      (on_but s old new (plug_sessions s k None old new ends.within end_within ends.unplugged sound)
      (book_there s k None old new ends.within end_within ends.unplugged sound)
      (place_there s k None old new ends.within end_within ends.unplugged sound) on)

-- a session is bound to a connection that it dialled
module _ (g : TextLaws) (before : ℕ → List Entry) (s number at : ℕ) (old new : Board) (dials : Dials s number at old new) where
  dial_unplaced : (place : Option ℕ) → IsPlaced old s place → place ≡ None
  dial_unplaced None is = refl
  dial_unplaced (Some i) is = absurd (none_some _ (sym dials.free ∙ is.bound))

  dial_free : IsSound old → place_at old s ≡ None
  dial_free sound = dial_unplaced (place_at old s) (sound.placed s dials.within)

  dial_connections : length new.connections ≡ length old.connections + 1
  dial_connections = ap length dials.connection ∙ length_push old.connections _

  dialled : connection_at new (length old.connections) ≡ fresh_dial number at s (connection_at new (length old.connections)).out
  dialled =
      ap (λ (cs : List ConnectionState). get_or cs (length old.connections) no_connection) dials.connection
      ∙ get_or-append_seam old.connections (fresh_dial number at s (connection_at new (length old.connections)).out) [] no_connection

  dial_line : (i : ℕ) → i < length new.connections → i ≢ length old.connections → (i < length old.connections) × (connection_at new i ≡ connection_at old i)
  dial_line i within other =
      let small : i < length old.connections = omega (arith, dial_connections, other) in
      (small, ap (λ (cs : List ConnectionState). get_or cs i no_connection) dials.connection ∙ get_or-append old.connections _ no_connection i small)

  dial_sessions : length new.sessions ≡ length old.sessions
  dial_sessions = set_sessions s old new dials.sessions

  dial_books : (j : ℕ) → j ≢ s → book_at new j ≡ book_at old j
  dial_books = set_books s old new dials.sessions

  dial_places : (j : ℕ) → j ≢ s → place_at new j ≡ place_at old j
  dial_places j other = ap (λ places. get_or places j None) dials.places ∙ get_or-set_other old.places s j (Some (length old.connections)) None other

  pub dial_on : AreOn old → AreOn new
  dial_on on = on_all s new (λ i within placed. dials.on) (on_but s old new dial_sessions dial_books dial_places (all_but s old on))

  module _ (is : IsNearly before old) where
    dial_opens : OpensText number (with_outbox (book_at old s) no_outgoing) (desk_with new s (Some (length old.connections)))
    dial_opens = subst (λ desk. OpensText number (with_outbox (book_at old s) no_outgoing) desk) (sym dials.desk)
        (g.dial number at (with_outbox (book_at old s) no_outgoing) (is.books s dials.within).is_book)

    dial_text : HasTextOf before new s (length old.connections)
    dial_text =
        let go_on = is.entries s dials.within in
        subst (λ c. IsTextOf (names_at new s) (before s) c (book_at new s) (connection_at new (length old.connections)).out.outgoing) (sym (ap (λ (c : ConnectionState). c.number) dialled))
        (dial_opens.text (names_at new s) (before s) go_on.added go_on.are (g.first (names_at new s) (book_at old s).outbound))

    pub dial_nearly : IsNearly before new
    dial_nearly =
        let k = length old.connections in
        let names = ap (λ (c : ConnectionState). c.session) dialled in
        turned before s k old new is
        (record {
          sound = dial_sound s (fresh_dial number at s (connection_at new k).out) old new dials.within (dial_free is.sound) dials.sessions dials.places dials.connection dials.nowhere refl refl dials.bound is.sound;
          sessions = dial_sessions;
          books_there = dial_books;
          lawful = λ within. dials.lawful.lawful;
          entries = λ within. dial_opens.entries;
          lines_there = dial_line;
          number = λ i within other own same. dials.new_number i within (sym same ∙ ap (λ (c : ConnectionState). c.number) dialled);
          named = λ j within told. there dial_sessions (same_number s j (sym names ∙ told)) dials.within;
          text = λ j within told. subst (λ n. HasTextOf before new n k) (same_number s j (sym names ∙ told)) dial_text;
          texts = λ i within other told was.
              dial_opens.others (names_at new s) (before s) (connection_at old i).number (connection_at old i).out.outgoing (λ e. dials.new_number i within (sym e))
              (subst (λ ns. IsTextOf ns (before s) (connection_at old i).number (book_at old s) (connection_at old i).out.outgoing) (same_names old new s dials.lawful.same) was);
          silent = λ within none. absurd (none_some s (sym none ∙ names));
        })

-- a connection is accepted
module _ (before : ℕ → List Entry) (c : ConnectionState) (board : Board) (unbound : c.session ≡ None) (none_waits : c.out.outgoing ≡ no_outgoing) (new_number : IsNewNumber board c.number) where
  accept_line : (i : ℕ) → i < length (board.connections ++ c ∷ []) → i ≢ length board.connections
      → (i < length board.connections) × (get_or (board.connections ++ c ∷ []) i no_connection ≡ connection_at board i)
  accept_line i within other =
      let small : i < length board.connections = omega (arith, length_push board.connections c, other) in
      (small, get_or-append board.connections (c ∷ []) no_connection i small)

  pub accept_nearly : IsNearly before board → IsNearly before (with_connections (board.connections ++ c ∷ []) board)
  accept_nearly is =
      let here : get_or (board.connections ++ c ∷ []) (length board.connections) no_connection ≡ c = get_or-append_seam board.connections c [] no_connection in
      turned before (length board.sessions) (length board.connections) board (with_connections (board.connections ++ c ∷ []) board) is
      (record {
        sound = accept_sound board c unbound is.sound;
        sessions = refl;
        books_there = λ j other. refl;
        lawful = λ small. absurd (omega arith);
        entries = λ small. absurd (omega arith);
        lines_there = accept_line;
        number = λ i within other own same. new_number i within (sym same ∙ ap (λ (x : ConnectionState). x.number) here);
        named = λ j within names. absurd (none_some j (sym unbound ∙ ap (λ (x : ConnectionState). x.session) (sym here) ∙ names));
        text = λ j within names. absurd (none_some j (sym unbound ∙ ap (λ (x : ConnectionState). x.session) (sym here) ∙ names));
        texts = λ i within other names was. was;
        silent = λ within none. ap (λ (x : ConnectionState). x.out.outgoing) here ∙ none_waits;
      })
