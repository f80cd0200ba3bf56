use Rattle.train_nodes.proofs.Words.{sym}
use Rattle.train_nodes.proofs.ReadLemmas.{found-read, distinct-seen}
use Rattle.train_nodes.proofs.StoredLemmas.{found-named, none-named}
use Rattle.train_nodes.proofs.trains.Trains.find_call.Goals as goal

pub returns-in-Some : goal.returns-in-Some
returns-in-Some c =
    let w = found-read c.self.invariant c.self.view_is c.deref.ensures.value c.in-Some.ensures c.index.ensures in
    record { found = rw (← c.self.view_is) (sym (found-named _ _ _ _ _ _ _ w.2)); labels = distinct-seen _ _ _ c.self.invariant c.self.view_is }

pub returns-in-None : goal.returns-in-None
returns-in-None c =
    let none = none-named _ _ _ c.self.invariant (rw c.deref.ensures.value at c.in-None.ensures) in
    record { found = rw (← c.self.view_is) (sym none); labels = distinct-seen _ _ _ c.self.invariant c.self.view_is }
