use Rattle.std.proofs.Common.{◌≡◌, ◌⊎◌, List, ℕ, [], ap, refl, inr}
use Rattle.commands.specs.Commands.{CanGoWell, IsFrontOf, MeetsContractOf, Work, answers, follows}
use Rattle.commands.specs.Failing.{WritesCannotFail}
use Rattle.commands.specs.Seen.{FeedSeen, StreamSeen}
use Rattle.commands.specs.declared.status.Status.{Status}
use Rattle.commands.specs.declared.status.Status.TheVariants.{Ok, OutOfMemory}
use Rattle.mt_io.specs.Causes.{CanFail, never, once_full}
use Rattle.mt_io.specs.Memory.{can_fail}
use Rattle.command_tests.proofs.tests.in_memory.run_in_memory.Goals as goal

-- where no call is listed, an object fails only by itself
by-itself : (calls : List ℕ) (can : CanFail) → calls ≡ [] → can_fail calls can ≡ can
by-itself calls can none = ap (λ (cs : List ℕ). can_fail cs can) none

-- where nothing can fail, whatever the command does, all goes well or there is no memory
goes-well : {F S K : Type 0} (work : Work) (budget : ℕ) (words : List (List ℕ)) (feed : FeedSeen) (input out err : StreamSeen)
    (feed_old feed_new : F) (input_old input_new : S) (out_old out_new : K) (status : Status)
    → MeetsContractOf work budget words feed input out err feed_old feed_new input_old input_new out_old out_new status → CanGoWell work words feed.tables input.bytes budget
    → feed.faults.can ≡ never → input.faults.can ≡ never → WritesCannotFail (IsFrontOf work budget words feed.tables input.bytes out.bytes) out
    → (status ≡ Ok) ⊎ (status ≡ OutOfMemory)
goes-well (answers any) budget words feed input out err fo fn io in_ oo on status meets can reads takes writes =
    meets.complete can (inr (record { feed_reads = reads; input_reads = takes; writes = writes }))
goes-well follows budget words feed input out err fo fn io in_ oo on status meets can reads takes writes =
    meets.complete can (inr (record { feed_reads = reads; input_reads = takes; writes = writes }))

pub returns : goal.returns
returns g c =
    let feed = c.args.feed.now in
    let input = c.args.input.now in
    let out = c.args.out.now in
    record {
      well =
          goes-well _ _ _ _ _ _ _ _ _ _ _ _ _ _ (c.traind_within.ensures.contract c.requires.command) c.requires.can_end
          (by-itself feed.failing never c.requires.feed) (by-itself input.failing never c.requires.input)
          (inr (record { room = out.room; can = by-itself out.failing (once_full out.room) c.requires.out; held = out.held; told = refl; fits = c.requires.room }));
    }
