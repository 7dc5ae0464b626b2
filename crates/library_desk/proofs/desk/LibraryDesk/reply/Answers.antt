use Rattle.std.proofs.Common.{length, ap, arith, set, sym, subst}
use Rattle.lease_desk.specs.Desk.{IsGrant, OnGranted}
use Rattle.switchboard.specs.Book.{Book}
use Rattle.library_desk.specs.Serving.{AreCursors}
use Rattle.library_desk.proofs.Cursors.{granted_cursors, refused_cursors}
use Rattle.library_desk.proofs.desk.LibraryDesk.reply.Goals as goal

pub returns-in-Granted-clause-ready : goal.returns-in-Granted-clause-ready
returns-in-Granted-clause-ready c =
    let old = c.args.self.now.desk.board in
    let new = c.request.new.self.board in
    let news = c.in_ok-reply.ensures in
    record {
      in_step = c.request.ensures.in_step c.requires.ready.in_step;
      cursors = subst (λ n. AreCursors new (set c.args.self.now.cursors.items n (record { s = c.args.s; lease = c.in-Granted.lease; at = c.args.from }))) (sym c.from-in-Granted.ensures) (granted_cursors c.lines_tell_the_owner.ensures.owner c.args.s old new news.others c.args.self.now.cursors.items (omega arith) (ap (λ (b : Book). length b.inbound) news.book) c.requires.ready.cursors
          c.in-Granted.lease c.in-Granted.start c.args.from c.in_ok-reply.reply c.args.library c.in-Granted.is news.lines (subst (λ reply. OnGranted reply (IsGrant old c.args.s c.args.from)) c.in-Granted.is news.granted));
    }

pub returns-in-Refused-clause-ready : goal.returns-in-Refused-clause-ready
returns-in-Refused-clause-ready c =
    let old = c.args.self.now.desk.board in
    let new = c.request.new.self.board in
    let news = c.in_ok-reply.ensures in
    record {
      in_step = c.request.ensures.in_step c.requires.ready.in_step;
      cursors = refused_cursors c.lines_tell_the_owner.ensures.owner c.args.s old new news.others c.args.self.now.cursors.items (omega arith) (ap (λ (b : Book). length b.inbound) news.book) c.requires.ready.cursors
          c.in-Refused.why c.in_ok-reply.reply c.args.library c.in-Refused.is news.lines;
    }
