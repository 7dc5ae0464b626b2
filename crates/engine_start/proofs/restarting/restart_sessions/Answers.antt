use Rattle.std.proofs.Common.{◌≡◌, ◌<◌, ◌≤◌, ◌+◌, ℕ, ◌∷◌, ◌++◌, [], List, length, Option, None, sym, ap, subst, ◌∙◌, append_assoc, arith}
use Rattle.std.proofs.lemmas.List.{length-append}
use Rattle.std.specs.Prelude.{IfSome}
use Rattle.std.specs.Vec.Iter.{into_iter_items}
use Rattle.engine_config.specs.Config.{AreNames, IsDial, dial_of, names_of, no_names}
use Rattle.engine_config.specs.declared.config.DialTo.{DialTo}
use Rattle.engine_start.proofs.Again.{next_is, next_within, one_goes_on, read_is}
use Rattle.engine_start.specs.Restarts.{restarted_book}
use Rattle.engine_start.specs.Revived.{GoOnBehind}
use Rattle.engine_start.specs.declared.reviving.Revived.{Revived}
use Rattle.seq_gaps.specs.declared.offered.TheConstants.{MAX_NUMBER}
use Rattle.session_core.specs.declared.names.Names.{Names}
use Rattle.engine_start.proofs.restarting.restart_sessions.Goals as goal

pub restart-requires-clause-names : goal.restart-requires-clause-names
restart-requires-clause-names c =
    let so_far = c.loop-one in
    let one = c.in-Some.one in
    let rest = into_iter_items c.next.new.self in
    let config = c.args.config.now in
    let split : so_far.yielded ++ one ∷ rest ≡ c.args.revived.items = ap (λ (rs : List Revived). so_far.yielded ++ rs) (sym c.in-Some.ensures.steps.0) ∙ so_far.invariant.all in
    let less = next_within so_far.yielded rest c.args.revived.items one split in
    let place : c.sessions-s.result ≡ length so_far.yielded = c.sessions-s.ensures.sessions ∙ so_far.invariant.go_on.count_is in
    let small : c.sessions-s.result < length config.names = (let count = c.requires.revived.count_is in omega arith) in
    let is : c.index-names-s.result ≡ names_of config c.sessions-s.result = read_is c.as_slice-names.result.now config.names c.sessions-s.result c.index-names-s.result no_names c.as_slice-names.ensures c.index-names-s.is small in
    subst AreNames (sym is) (c.requires.config.names c.sessions-s.result small)

pub restart-requires-clause-dialled : goal.restart-requires-clause-dialled
restart-requires-clause-dialled c =
    let so_far = c.loop-one in
    let one = c.in-Some.one in
    let rest = into_iter_items c.next.new.self in
    let config = c.args.config.now in
    let split : so_far.yielded ++ one ∷ rest ≡ c.args.revived.items = ap (λ (rs : List Revived). so_far.yielded ++ rs) (sym c.in-Some.ensures.steps.0) ∙ so_far.invariant.all in
    let less = next_within so_far.yielded rest c.args.revived.items one split in
    let place : c.sessions-s.result ≡ length so_far.yielded = c.sessions-s.ensures.sessions ∙ so_far.invariant.go_on.count_is in
    let small : c.sessions-s.result < length config.names = (let count = c.requires.revived.count_is in omega arith) in
    let there : c.sessions-s.result < length config.dialled = (let count = c.requires.config.dialled in omega arith) in
    let is : c.index-dialled-s.result ≡ dial_of config c.sessions-s.result = read_is c.as_slice-dialled.result.now config.dialled c.sessions-s.result c.index-dialled-s.result None c.as_slice-dialled.ensures c.index-dialled-s.is there in
    subst (λ (d : Option DialTo). IfSome d IsDial) (sym is) (c.requires.config.each_dial c.sessions-s.result small)

pub restart-requires-clause-from : goal.restart-requires-clause-from
restart-requires-clause-from c =
    let so_far = c.loop-one in
    let one = c.in-Some.one in
    let rest = into_iter_items c.next.new.self in
    let split : so_far.yielded ++ one ∷ rest ≡ c.args.revived.items = ap (λ (rs : List Revived). so_far.yielded ++ rs) (sym c.in-Some.ensures.steps.0) ∙ so_far.invariant.all in
    let less = next_within so_far.yielded rest c.args.revived.items one split in
    subst (λ (x : Revived). 1 ≤ x.expected) (next_is so_far.yielded rest c.args.revived.items one split)
    (c.requires.revived.from_one (length so_far.yielded) (let count = c.requires.revived.count_is in omega arith))

pub restart-requires-clause-to : goal.restart-requires-clause-to
restart-requires-clause-to c =
    let so_far = c.loop-one in
    let one = c.in-Some.one in
    let rest = into_iter_items c.next.new.self in
    let split : so_far.yielded ++ one ∷ rest ≡ c.args.revived.items = ap (λ (rs : List Revived). so_far.yielded ++ rs) (sym c.in-Some.ensures.steps.0) ∙ so_far.invariant.all in
    let less = next_within so_far.yielded rest c.args.revived.items one split in
    subst (λ (x : Revived). x.expected ≤ MAX_NUMBER + 1) (next_is so_far.yielded rest c.args.revived.items one split)
    (c.requires.revived.to_last (length so_far.yielded) (let count = c.requires.revived.count_is in omega arith))

pub loop-one-preserved : goal.loop-one-preserved
loop-one-preserved c =
    let so_far = c.loop-one in
    let one = c.in-Some.one in
    let rest = into_iter_items c.next.new.self in
    let config = c.args.config.now in
    let until = c.args.until in
    let made = c.in_ok-book in
    let split : so_far.yielded ++ one ∷ rest ≡ c.args.revived.items = ap (λ (rs : List Revived). so_far.yielded ++ rs) (sym c.in-Some.ensures.steps.0) ∙ so_far.invariant.all in
    let less = next_within so_far.yielded rest c.args.revived.items one split in
    let place : c.sessions-s.result ≡ length so_far.yielded = c.sessions-s.ensures.sessions ∙ so_far.invariant.go_on.count_is in
    let small : c.sessions-s.result < length config.names = (let count = c.requires.revived.count_is in omega arith) in
    let there : c.sessions-s.result < length config.dialled = (let count = c.requires.config.dialled in omega arith) in
    let names : c.index-names-s.result ≡ names_of config (length so_far.yielded) =
    read_is c.as_slice-names.result.now config.names c.sessions-s.result c.index-names-s.result no_names c.as_slice-names.ensures c.index-names-s.is small ∙ ap (names_of config) place in
    let dial : c.index-dialled-s.result ≡ dial_of config (length so_far.yielded) =
    read_is c.as_slice-dialled.result.now config.dialled c.sessions-s.result c.index-dialled-s.result None c.as_slice-dialled.ensures c.index-dialled-s.is there ∙ ap (dial_of config) place in
    record {
      all = append_assoc so_far.yielded (one ∷ []) rest ∙ split;
      go_on = subst (λ (n : ℕ). GoOnBehind config until c.args.revived.items n c.add.new.self c.push.new.self.items) (sym (length-append so_far.yielded (one ∷ [])))
          (one_goes_on c.boards_stay_ready.ensures.add config until c.args.revived.items (length so_far.yielded) so_far.board c.add.new.self made.book so_far.unkept.items c.push.new.self.items made.new one
          made.ensures.unbound c.add.ensures.lawful (next_is so_far.yielded rest c.args.revived.items one split)
          (record {
            book_is = made.ensures.book ∙ ap (λ (n : Names). restarted_book n c.index-dialled-s.result until one.revival one.expected) names
                ∙ ap (λ (d : Option DialTo). restarted_book (names_of config (length so_far.yielded)) d until one.revival one.expected) dial;
            owned = made.ensures.owned;
            noted = made.ensures.noted;
            all = made.ensures.all;
          })
          c.in_ok-add.ensures.ok c.in_ok-push.ensures.items so_far.invariant.go_on);
    }
