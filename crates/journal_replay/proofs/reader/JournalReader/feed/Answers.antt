use Rattle.std.proofs.Common.{◌∙◌, ap, sym, subst}
use Rattle.journal_replay.specs.Reading.{JournalProgress}
use Rattle.journal_replay.specs.ReaderStates.{IsAt, ReaderState}
use Rattle.journal_replay.proofs.ByteLemmas.{refused-stays}
use Rattle.journal_replay.proofs.reader.JournalReader.feed.Goals as goal

pub returns-in-Some-clause-read : goal.returns-in-Some-clause-read
returns-in-Some-clause-read g c = λ other p at.
    let refused_there = ap (λ (r : ReaderState). r.refusal) (sym c.self.view_is) ∙ c.in-Some.is in
    let stays = refused-stays c.args.self.now.header p _ c.args.piece.now (ap (λ (q : JournalProgress). q.refusal) at.reads ∙ refused_there) in
    subst (IsAt g.T.TakeJournal.stands c.args.taker.now c.args.self.now) (sym stays) at

pub read_piece-requires-clause-ready : goal.read_piece-requires-clause-ready
read_piece-requires-clause-ready g c = c.requires.ready (ap (λ (r : ReaderState). r.refusal) (sym c.self.view_is) ∙ c.in_default.is)
