use Rattle.query_crew.proofs.Words.{◌∙◌, ap, length, service_after}
use Rattle.std.proofs.Common.{get_or}
use Rattle.query_crew.specs.Posting.{after_lines}
use Rattle.query_crew.proofs.Choosing.{replies-length, all-covered, own-replies, window-answered, stands-answered, both}
use Rattle.query_crew.proofs.Joins.{some-in}
use Rattle.query_crew.proofs.Keeping.{all-kept-again}
use Rattle.query_crew.proofs.window_run.run_lines.Goals as goal

pub join_replies-requires-clause-own : goal.join_replies-requires-clause-own
join_replies-requires-clause-own g c =
    let s = c.requires.ready.board.0 in
    let p = c.in_ok-post_and_answer.ensures.posted s c.requires.ready.board.1 in
    ap length (own-replies c.new-own.ensures.items p) ∙ replies-length s c.args.window.now.first c.args.window.now.lines.now

pub join_replies-requires-clause-covered : goal.join_replies-requires-clause-covered
join_replies-requires-clause-covered g c = λ place line d at.
    let s = c.requires.ready.board.0 in
    let p = c.in_ok-post_and_answer.ensures.posted s c.requires.ready.board.1 in
    let same = c.in_ok-post_and_answer.ensures.kept.count in
    rw same (all-covered {answers = λ k. (get_or c.post_and_answer.new.all k d).answers.items} c.requires.some
    (λ k l. c.in_ok-post_and_answer.ensures.answered k d l) s c.post_and_answer.new.replies.items place line (own-replies c.new-own.ensures.items p) at)

pub returns-clause-replies : goal.returns-clause-replies
returns-clause-replies g c =
    let d = some-in c.args.all.now c.requires.some in
    let same = c.in_ok-post_and_answer.ensures.kept.count in
    both c.join_replies.result c.join_replies.ensures.one_each c.join_replies.ensures.each (λ replies count joined nw names st before window stands first_is lines_are.
    window-answered {answers = λ k. (get_or c.post_and_answer.new.all k d).answers.items} nw names st c.args.directory.now before window c.requires.some
    (λ k l. c.in_ok-post_and_answer.ensures.answered k d l) stands first_is lines_are c.new-own.ensures.items
    (c.in_ok-post_and_answer.ensures.posted (service_after nw names st before) stands) count (rw same at joined d))

pub returns-clause-stands : goal.returns-clause-stands
returns-clause-stands g c =
    both c.join_replies.result c.join_replies.ensures.one_each c.join_replies.ensures.one_each (λ replies count too nw names st before window stands first_is lines_are.
    stands-answered nw names st c.args.directory.now before window first_is lines_are (c.in_ok-post_and_answer.ensures.posted (service_after nw names st before) stands))

pub returns-clause-board : goal.returns-clause-board
returns-clause-board g c =
    let s = c.requires.ready.board.0 in
    let p = c.in_ok-post_and_answer.ensures.posted s c.requires.ready.board.1 in
    both c.join_replies.result c.join_replies.ensures.one_each c.join_replies.ensures.one_each (λ replies count too. (after_lines s c.args.window.now.lines.now, p.stands))

pub returns-clause-kept : goal.returns-clause-kept
returns-clause-kept g c = all-kept-again c.args.all.now c.post_and_answer.new.all c.join_replies.new.all c.in_ok-post_and_answer.ensures.kept c.join_replies.ensures.kept
