-- What a command promises of each run, by the way in which it ends.
use Rattle.std.specs.Prelude.{ℕ, ◌≡◌, ◌⊎◌, List, None, Result, Ok, Err}
use Rattle.std.specs.Io.KnownBytes.{IsAtEnd}
use Rattle.command_words.specs.Words.{asked_of}
use Rattle.information_service.specs.Causes.{TookAll, TookAtMost, TookFewer}
use Rattle.information_service.specs.declared.fault.LinesFault.TheVariants as lines
use Rattle.commands.specs.Failing.{FeedReadFailed, InputReadFailed, NothingFailed, WriteFailed}
use Rattle.commands.specs.Runs.{IsRefused, Refusal, SaysWhy, WritesAll, WritesFront}
use Rattle.commands.specs.Runs.{WritesReplies, line_of_refusal}
use Rattle.commands.specs.Seen.{FeedSeen, StreamSeen}
use Rattle.commands.specs.Tasks.{Task}
use Rattle.commands.specs.declared.status.Status.{Status}
use Rattle.commands.specs.declared.status.Status.TheVariants as statuses
use Rattle.commands.specs.declared.status.Stop.{Stop}
use Rattle.commands.specs.declared.status.Stop.TheVariants.{Usage, Refused, Fault}

-- ---- the ways in which a run ends

-- what it is for a run to have ended in each way
pub record Ends : Type 1 where
  -- all went well
  pub well : Type 0
  -- the words ask for nothing that the program does
  pub usage : Type 0
  -- what the words ask for is refused, and this line says why
  pub refused : List ℕ → Type 0
  -- a read of the feed or the input failed
  pub read_fault : Type 0
  -- a write of the output failed
  pub write_fault : Type 0
  -- there was no memory
  pub out_of_memory : Type 0
  -- as many bytes of the input as may be were taken, and no end was read
  pub too_long : Type 0

-- a run with this result is refused with this line
abbrev pub IsRefusedWith : List ℕ → Result (Unit {0}) Stop → Type 0
IsRefusedWith line (Ok u) = ⊥
IsRefusedWith line (Err Usage) = ⊥
IsRefusedWith line (Err (Refused told)) = line ≡ told.items
IsRefusedWith line (Err (Fault fault)) = ⊥

-- how a run with this result has ended
abbrev pub run_ends : Result (Unit {0}) Stop → Ends
run_ends run = record {
  well = run ≡ Ok tt;
  usage = run ≡ Err Usage;
  refused = λ line. IsRefusedWith line run;
  read_fault = run ≡ Err (Fault lines.ReadFault);
  write_fault = run ≡ Err (Fault lines.WriteFault);
  out_of_memory = run ≡ Err (Fault lines.OutOfMemory);
  too_long = run ≡ Err (Fault lines.TooLong);
}

-- how a run with this status has ended, of which the error stream was told this line
abbrev pub status_ends : Status → List ℕ → Ends
status_ends status told = record {
  well = status ≡ statuses.Ok;
  usage = status ≡ statuses.Usage;
  refused = λ line. (status ≡ statuses.FeedRefused) × (line ≡ told);
  read_fault = status ≡ statuses.ReadFault;
  write_fault = status ≡ statuses.WriteFault;
  out_of_memory = status ≡ statuses.OutOfMemory;
  too_long = status ≡ statuses.TooLong;
}

-- ---- the promises

-- What is promised of a run that has ended in one of these ways. The run had these words; it found
-- the feed, the input and the output as the first of each pair and left them as the second
pub record KeepsPromises {B F S K : Type 0} (ends : Ends) (task : Task B) (budget : ℕ)
    (words : List (List ℕ)) (feed : FeedSeen) (input out : StreamSeen)
    (feed_old feed_new : F) (input_old input_new : S) (out_old out_new : K) : Type 0 where
  -- ---- words

  -- it ends for words that ask for nothing where they are such words
  pub usage : ends.usage → asked_of words ≡ None
  -- and for all of them, unless there is no memory
  pub usage_exactly : asked_of words ≡ None → ends.usage ⊎ ends.out_of_memory
  -- such words touch nothing
  pub usage_untouched : asked_of words ≡ None → (feed_new ≡ feed_old)
      × (input_new ≡ input_old) × (out_new ≡ out_old)
  -- ---- the feed, and what the command loads behind it

  -- where it is refused the line says why: for a reason which is the one by the definition where
  -- the feed tells its tables
  pub refused : (line : List ℕ) → ends.refused line → SaysWhy task words feed.tables line
  -- what is to be refused is refused with its line, unless a read of the feed fails or there is no
  -- memory
  pub refused_exactly : (why : Refusal) → IsRefused task words feed.tables why
      → ends.refused (line_of_refusal why) ⊎ ends.out_of_memory
      ⊎ (ends.read_fault × FeedReadFailed feed input out)
  -- where it is refused, nothing was read from the input or written to the output
  pub untouched : (line : List ℕ) → ends.refused line
      → (input_new ≡ input_old) × (out_new ≡ out_old)
  -- however it ends, what is to be refused leaves the input and the output as they were
  pub refused_untouched : (why : Refusal) → IsRefused task words feed.tables why
      → (input_new ≡ input_old) × (out_new ≡ out_old)
  -- ---- the input

  -- no more bytes are taken than may be, and where all went well fewer
  pub at_most : TookAtMost budget input.bytes input.bytes_after
  pub fewer : ends.well → TookFewer budget input.bytes input.bytes_after
  -- ---- the output

  -- all went well: the whole output of all lines of the input is written
  pub ok : ends.well → WritesAll task words feed.tables input.bytes out.bytes out.bytes_after
  -- and the input is at its end
  pub ended : ends.well → IsAtEnd input.bytes_after
  -- where a read failed or the input is too long, what is written is for the lines that are whole
  -- among the bytes taken; in `serve`, for the windows that are
  pub stopped : ends.read_fault ⊎ ends.too_long → WritesReplies task words feed.tables input.bytes
      input.bytes_after out.bytes out.bytes_after
  -- however the run ended, what is written is a front of the replies to the lines that are whole
  -- among the bytes taken, or, where the end of the input was read, of a whole output; where a
  -- write failed it is not all of that
  pub front : WritesFront ends.write_fault task budget words feed.tables input.bytes
      input.bytes_after out.bytes out.bytes_after
  -- ---- faults

  -- the run stops at its first fault: a read fault comes where one read of the feed failed, before
  -- anything was read of the input, or one read of the input, of which fewer bytes were taken than
  -- may be, and nothing else failed
  pub read_fault : ends.read_fault → ((input_new ≡ input_old) × (out_new ≡ out_old)
      × FeedReadFailed feed input out)
      ⊎ (InputReadFailed feed input out × TookFewer budget input.bytes input.bytes_after)
  -- a write fault comes where one write of the output failed, and nothing else
  pub write_fault : ends.write_fault → WriteFailed feed input out
  -- and where it ends in another way nothing failed
  pub no_fault : ¬ ends.read_fault → ¬ ends.write_fault → NothingFailed feed input out
  -- the input is too long where as many bytes were taken as may be
  pub too_long : ends.too_long → TookAll budget input.bytes input.bytes_after
