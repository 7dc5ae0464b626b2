-- How an engine begins: its routes, one after another, and what holds where no turn was made.
use Rattle.std.proofs.Common.{◌≡◌, ℕ, zero, suc, ◌+◌, ◌<◌, ◌≤◌, List, [], ◌∷◌, ◌++◌, Bool, true, false, cond, length, map, get_or, Option, None, Some, refl, sym, ap, subst, ◌∙◌, add-one, arith}
use Rattle.std.proofs.lemmas.List.{get_or-replicate, length-map, length-replicate, append-nil}
use Rattle.std.proofs.lemmas.List.Elements.{All-filter, All-from_get_or, All-get_or, filter-append, filter_passes}
use Rattle.std.proofs.lemmas.List.FromFn.{get_or-range_with_len, length-range_with_len}
use Rattle.std.proofs.lemmas.List.Sums.{count_by-le-length, length-filter}
use Rattle.std.proofs.lemmas.Option.{get_or_from_slice_get, same_Some, slice_get-map, slice_get_within}
use Rattle.std.specs.Prelude.{IfSome, IsSome, replicate, slice_get, slice_index_or}
use Rattle.std.specs.List.{All, filter, range_with_len}
use Rattle.std.specs.Option.{is_none, option_map}
use Rattle.connection_core.specs.Connection.{ConnectionState}
use Rattle.engine_config.specs.Config.{IsConfig, IsDial, dial_of, names_of}
use Rattle.engine_config.specs.declared.config.Config.{Config}
use Rattle.engine_config.specs.declared.config.DialTo.{DialTo}
use Rattle.engine_end.specs.Room.{Room}
use Rattle.engine_loop.specs.Engines.{IsAtWork, IsOnline}
use Rattle.engine_loop.specs.Starts.{HasNoLines, StartsDials, StartsFigures, StartsRoutes, accepting_sessions}
use Rattle.engine_loop.specs.declared.engine.Engine.{Engine}
use Rattle.connection_core.specs.declared.limits.TheConstants.{MOST_READ}
use Rattle.engine_start.specs.Restarts.{RestartsSessions}
use Rattle.engine_start.specs.Starts.{StartsSessions, heart_of}
use Rattle.lease_core.specs.declared.record.Record.{Record}
use Rattle.gate_io.specs.Wire.{Door, Link}
use Rattle.gate_io.specs.declared.clocks.TheConstants.{LAST_MOMENT}
use Rattle.gate_io.specs.declared.wires.TheConstants.{MOST_DIALLED}
use Rattle.library_desk.specs.Serving.{IsInOrder, IsLinked}
use Rattle.library_desk.specs.declared.desk.LibraryDesk.{LibraryDesk}
use Rattle.library_desk.specs.declared.shared.Shared.{Shared}
use Rattle.session_book.specs.Book.{Book}
use Rattle.session_book.specs.Records.{HasNoted, Pending}
use Rattle.session_core.specs.declared.names.Names.{Names}
use Rattle.session_desk.specs.Steps.{AreNoted, AreRoutes, IsRoute, nothing_noted}
use Rattle.session_desk.specs.declared.routes.Routes.{Routes}
use Rattle.switchboard.specs.Board.{Board, book_at}
use Rattle.switchboard.specs.Ready.{IsReady, entries_of}
use Rattle.wire_desk.specs.Dials.{IsDialling, IsPlanOf, plan_at}
use Rattle.wire_desk.specs.Lines.{IsOpenPlace, IsSetUp, IsWired}
use Rattle.wire_desk.specs.Places.{AreRising, open_places}
use Rattle.wire_desk.specs.Steps.{AreApart}
use Rattle.wire_desk.specs.declared.dialling.Dialler.{Dialler}

range_more : (first n : ℕ) → range_with_len first (suc n) ≡ range_with_len first n ++ (first + n) ∷ []
range_more first zero = ap (λ k. k ∷ []) (omega arith)
range_more first (suc n) = ap (λ (ks : List ℕ). first ∷ ks) (range_more (first + 1) n ∙ ap (λ k. range_with_len (first + 1) n ++ k ∷ []) (omega arith))

-- one session more, which accepts or doesn't
accepting_more : (config : Config) (s : ℕ) → accepting_sessions config (s + 1) ≡ accepting_sessions config s ++ cond (is_none (dial_of config s)) (s ∷ []) []
accepting_more config s =
    rw add-one (ap (filter (λ k. is_none (dial_of config k))) (range_more 0 s ∙ ap (λ k. range_with_len 0 s ++ k ∷ []) (omega arith))
    ∙ filter-append (λ k. is_none (dial_of config k)) (range_with_len 0 s) (s ∷ []))

accepting_one : (config : Config) (s : ℕ) → is_none (dial_of config s) ≡ true → accepting_sessions config (s + 1) ≡ accepting_sessions config s ++ s ∷ []
accepting_one config s accepts = accepting_more config s ∙ ap (λ b. accepting_sessions config s ++ cond b (s ∷ []) []) accepts

accepting_none : (config : Config) (s : ℕ) → is_none (dial_of config s) ≡ false → accepting_sessions config (s + 1) ≡ accepting_sessions config s
accepting_none config s dials = accepting_more config s ∙ ap (λ b. accepting_sessions config s ++ cond b (s ∷ []) []) dials ∙ append-nil (accepting_sessions config s)

map-append_one : (f : ℕ → Names) (xs : List ℕ) (x : ℕ) → map f (xs ++ x ∷ []) ≡ map f xs ++ f x ∷ []
map-append_one f [] x = refl
map-append_one f (y ∷ ys) x = ap (λ (ns : List Names). f y ∷ ns) (map-append_one f ys x)

pub route_more : (config : Config) (s : ℕ) (old new : Routes) → is_none (dial_of config s) ≡ true → new.sessions.items ≡ old.sessions.items ++ s ∷ [] → new.names.items ≡ old.names.items ++ names_of config s ∷ []
    → StartsRoutes config s old → StartsRoutes config (s + 1) new
route_more config s old new accepts sessions names starts = record {
  sessions = sessions ∙ ap (λ (ss : List ℕ). ss ++ s ∷ []) starts.sessions ∙ sym (accepting_one config s accepts);
  names = names ∙ ap (λ (ns : List Names). ns ++ names_of config s ∷ []) starts.names
      ∙ sym (ap (map (names_of config)) (accepting_one config s accepts) ∙ map-append_one (names_of config) (accepting_sessions config s) s);
}

pub route_none : (config : Config) (s : ℕ) (routes : Routes) → is_none (dial_of config s) ≡ false → StartsRoutes config s routes → StartsRoutes config (s + 1) routes
route_none config s routes dials starts = record {
  sessions = starts.sessions ∙ sym (accepting_none config s dials);
  names = starts.names ∙ sym (ap (map (names_of config)) (accepting_none config s dials));
}

-- each of them is there, and accepts
accepting_within : (config : Config) (count : ℕ) → All (λ s. s < count) (accepting_sessions config count)
accepting_within config count = All-filter (λ s. is_none (dial_of config s)) (λ s. s < count) (range_with_len 0 count) (All-from_get_or (λ s. s < count) (range_with_len 0 count) 0
    (λ i small. let within : i < count = subst (λ n. i < n) (length-range_with_len 0 count) small in
    subst (λ k. k < count) (sym (get_or-range_with_len 0 count i 0 within)) (omega arith)))

none_is : {T : Type 0} (o : Option T) → is_none o ≡ true → o ≡ None
none_is None is = refl
none_is (Some x) is = cc

-- there are the sessions of a configuration, with their names, which dial as it says
pub record AreSessionsOf (config : Config) (board : Board) : Type 0 where
  pub count : length board.sessions ≡ length config.names
  pub names : (s : ℕ) → s < length config.names → (book_at board s).machine.names ≡ names_of config s
  pub dials : (s : ℕ) → s < length config.names → (book_at board s).machine.dials ≡ heart_of (dial_of config s)

pub started : (config : Config) (board : Board) → StartsSessions config board → AreSessionsOf config board
started config board starts = record {
  count = starts.count;
  names = λ s within. ap (λ (b : Book). b.machine.names) (starts.books s within);
  dials = λ s within. ap (λ (b : Book). b.machine.dials) (starts.books s within);
}

pub restarted : (config : Config) (until : ℕ) (records : List Record) (board : Board) → RestartsSessions config until records board → AreSessionsOf config board
restarted config until records board restarts = record {
  count = restarts.count;
  names = λ s within. ap (λ (b : Book). b.machine.names) (restarts.books s within);
  dials = λ s within. ap (λ (b : Book). b.machine.dials) (restarts.books s within);
}

is_route : (config : Config) (board : Board) (s : ℕ) → AreSessionsOf config board → s < length config.names → is_none (dial_of config s) ≡ true → IsRoute board s (names_of config s)
is_route config board s starts within accepts = record {
  within = subst (λ n. s < n) (sym starts.count) within;
  accepts = starts.dials s within ∙ ap heart_of (none_is (dial_of config s) accepts);
  names_are = starts.names s within;
}

pub routes_begin : (config : Config) (board : Board) (routes : Routes) → AreSessionsOf config board → StartsRoutes config (length config.names) routes → AreRoutes board routes
routes_begin config board routes sessions starts =
    let accepting = accepting_sessions config (length config.names) in
    record {
      count = ap (λ (ss : List ℕ). length ss) starts.sessions ∙ sym (ap (λ (ns : List Names). length ns) starts.names ∙ length-map accepting (names_of config));
      each = λ j s names has_session has_names.
          let at : slice_get accepting j ≡ Some s = subst (λ (ss : List ℕ). slice_get ss j ≡ Some s) starts.sessions has_session in
          let within : j < length accepting = slice_get_within accepting j s at in
          let is : get_or accepting j 0 ≡ s = get_or_from_slice_get accepting j s 0 at in
          let there : s < length config.names = subst (λ k. k < length config.names) is (All-get_or (λ k. k < length config.names) accepting j 0 within (accepting_within config (length config.names))) in
          let accepts : is_none (dial_of config s) ≡ true =
          subst (λ k. is_none (dial_of config k) ≡ true) is (All-get_or (λ k. is_none (dial_of config k) ≡ true) accepting j 0 within (filter_passes (λ k. is_none (dial_of config k)) (range_with_len 0 (length config.names)))) in
          let are : names_of config s ≡ names =
          same_Some (names_of config s) names (sym (ap (option_map (names_of config)) at) ∙ sym (slice_get-map (names_of config) accepting j) ∙ sym (ap (λ (ns : List Names). slice_get ns j) starts.names) ∙ has_names) in
          subst (IsRoute board s) are (is_route config board s sessions there accepts);
    }

-- no more sessions accept than there are
few_routes : (config : Config) (routes : Routes) → StartsRoutes config (length config.names) routes → length routes.names.items ≤ length config.names
few_routes config routes starts =
    let accepting = accepting_sessions config (length config.names) in
    let count : length routes.names.items ≡ length accepting = ap (λ (ns : List Names). length ns) starts.names ∙ length-map accepting (names_of config) in
    let all : length (range_with_len 0 (length config.names)) ≡ length config.names = length-range_with_len 0 (length config.names) in
    let accepts : ℕ → Bool = λ s. is_none (dial_of config s) in
    let few = length-filter accepts (range_with_len 0 (length config.names)) in
    let fewer = count_by-le-length accepts (range_with_len 0 (length config.names)) in
    omega arith

pub noted_begin : (config : Config) (board : Board) (unkept : List Pending) → StartsSessions config board → unkept ≡ replicate (length config.names) nothing_noted → AreNoted unkept board
noted_begin config board unkept sessions is = record {
  count = ap (λ (ps : List Pending). length ps) is ∙ length-replicate (length config.names) nothing_noted ∙ sym sessions.count;
  each = λ s small.
      let within : s < length config.names = subst (λ n. s < n) sessions.count small in
      let nothing : slice_index_or unkept s nothing_noted ≡ nothing_noted = ap (λ (ps : List Pending). slice_index_or ps s nothing_noted) is ∙ get_or-replicate (length config.names) s nothing_noted nothing_noted within in
      subst (λ (p : Pending). HasNoted p (book_at board s)) (sym nothing) (omega arith);
}

-- the engine has these sessions
pub begins_at_work : (config : Config) (moment : ℕ) (shared : Shared) (e : Engine) (desk : LibraryDesk) → e.sessions ≡ desk → IsConfig config → moment ≤ LAST_MOMENT → IsLinked shared desk → IsInOrder desk
    → AreSessionsOf config desk.desk.board → IsReady (entries_of desk.desk.board) desk.desk.board → StartsRoutes config (length config.names) e.lines.routes
    → AreNoted e.lines.unkept.items desk.desk.board → length e.lines.buffer.items ≡ MOST_READ → StartsFigures config moment e → IsAtWork shared e
begins_at_work config moment shared e desk same is in_time linked in_order sessions ready routes noted buffer figures = record {
  linked = subst (IsLinked shared) (sym same) linked;
  in_order = subst IsInOrder (sym same) in_order;
  set_up = subst (λ (d : LibraryDesk). IsSetUp shared.leases d.desk e.lines) (sym same) (record {
    table = linked.table;
    depth = linked.depth;
    sessions = linked.sessions;
    few = linked.few;
    routes = routes_begin config desk.desk.board e.lines.routes sessions routes;
    few_routes = (let count = few_routes config e.lines.routes routes in let few = is.sessions in omega arith);
    noted = noted;
    steady = record { run = record { before = entries_of desk.desk.board; ready = ready }; in_step = in_order.in_step };
    buffer = buffer;
  });
  moment = subst (λ n. n ≤ LAST_MOMENT) (sym figures.moment) in_time;
  most = (let connections = figures.connections in let most = is.connections in omega arith);
  few = (let accepted = figures.accepted in omega arith);
}

-- of a session that dials
dials_with : (config : Config) (board : Board) (s : ℕ) (plan : DialTo) → AreSessionsOf config board → s < length config.names → dial_of config s ≡ Some plan → (book_at board s).machine.dials ≡ Some plan.heart
dials_with config board s plan starts within dials = starts.dials s within ∙ ap heart_of dials

plan_begins : (config : Config) (board : Board) (s : ℕ) → AreSessionsOf config board → s < length config.names → (plan : Option DialTo) → dial_of config s ≡ plan → IfSome plan IsDial → IfSome plan (IsPlanOf board s)
plan_begins config board s starts within None dials is = is
plan_begins config board s starts within (Some plan) dials is = record {
  dials = subst (λ (o : Option ℕ). IsSome o) (sym (dials_with config board s plan starts within dials)) refl;
  wait = is.wait.to_most;
}

begins_dialling : (config : Config) (board : Board) (d : Dialler) (door : Door) → IsConfig config → AreSessionsOf config board → StartsDials config d → door.dialled ≡ 0 → IsDialling board door d
begins_dialling config board d door is sessions dials none = record {
  scheduled = record {
    plans = ap (λ (ps : List (Option DialTo)). length ps) dials.plans ∙ is.dialled ∙ sym sessions.count;
    next = ap (λ (ms : List ℕ). length ms) dials.next ∙ length-replicate (length config.dialled) 0 ∙ is.dialled ∙ sym sessions.count;
    each = λ s small.
        let within : s < length config.names = subst (λ n. s < n) sessions.count small in
        let same : plan_at d s ≡ dial_of config s = ap (λ (ps : List (Option DialTo)). slice_index_or ps s None) dials.plans in
        subst (λ (o : Option DialTo). IfSome o (IsPlanOf board s)) (sym same) (plan_begins config board s sessions within (dial_of config s) refl (is.each_dial s within));
  };
  made = dials.made ∙ sym none;
  few = (let made = dials.made in omega arith);
  most = subst (λ n. n ≤ MOST_DIALLED) (sym dials.most) is.dials;
}

-- where no connection came or was dialled, none is on the wire
pub begins_online : AreApart [] → AreRising [] → (config : Config) (moment : ℕ) (e : Engine) (desk : LibraryDesk) → e.sessions ≡ desk → IsConfig config → AreSessionsOf config desk.desk.board → desk.desk.board.connections ≡ [] → HasNoLines e.lines
    → StartsDials config e.dialler → StartsFigures config moment e → (door : Door) (links : ℕ → Link) → door.accepted ≡ 0 → door.dialled ≡ 0 → IsOnline e door links
begins_online none_apart none_rising config moment e desk same is sessions none_came lines dials figures door links none undialled =
    let board = desk.desk.board in
    let no_connections : length board.connections ≡ 0 = ap (λ (cs : List ConnectionState). length cs) none_came in
    let no_places : open_places e.lines ≡ [] = ap (λ (ks : List ℕ). ks ++ e.lines.dialled.items) lines.accepted ∙ lines.dialled in
    let as_many : length e.sessions.desk.board.sessions ≡ length board.sessions = ap (λ (d : LibraryDesk). length d.desk.board.sessions) same in
    let none_yet : length e.sessions.desk.board.connections ≡ length board.connections = ap (λ (d : LibraryDesk). length d.desk.board.connections) same in
    record {
      wired = subst (λ (d : LibraryDesk). IsWired d.desk.board (open_places e.lines) door links) (sym same) (record {
        each = λ k small. absurd (omega arith);
        listed = subst (All (IsOpenPlace board links)) (sym no_places) (All-from_get_or (IsOpenPlace board links) [] 0 (λ i small. absurd (omega arith)));
        all = λ k small stands. absurd (omega arith);
      });
      dialling = subst (λ (d : LibraryDesk). IsDialling d.desk.board door e.dialler) (sym same) (begins_dialling config board e.dialler door is sessions dials undialled);
      accepted = figures.accepted ∙ sym none;
      apart = subst AreApart (sym no_places) none_apart;
      in_order = record { accepted = subst AreRising (sym lines.accepted) none_rising; dialled = subst AreRising (sym lines.dialled) none_rising };
      few_accepted = (let first = ap (λ (ks : List ℕ). length ks) lines.accepted in omega arith);
      few_dialled = (let last = ap (λ (ks : List ℕ). length ks) lines.dialled in omega arith);
      came = omega arith;
      spare = record {
        for_sessions = (let room = ap (λ (r : Room). r.sessions) figures.spare in let count = sessions.count in omega arith);
        for_connections = (let room = ap (λ (r : Room). r.connections) figures.spare in let connections = figures.connections in let most = dials.most in omega arith);
      };
    }
