-- What cannot fail in a run.
use Rattle.std.proofs.Common.{◌≡◌, ◌∙◌, ◌⊎◌, ◌≤◌, ◌<◌, ◌++◌, ℕ, List, [], length, Option, Some, None, refl, sym, ap, subst, append_assoc, inl, inr, arith}
use Rattle.std.proofs.lemmas.List.{append-nil, length-append}
use Rattle.std.proofs.lemmas.Option.{none-some, same_Some}
use Rattle.std.specs.Io.KnownBytes.{Appends}
use Rattle.information_service.specs.Causes.{TookAtMost}
use Rattle.information_service.specs.Fronts.{AppendsFirst, AppendsFront, AppendsTakenFront, AppendsWholeFront}
use Rattle.information_service.proofs.Fronts.{taken_if}
use Rattle.mt_io.specs.Causes.{CanFail, Faults, IsFull, at_any_call, counted, never, once_full, one_more}
use Rattle.mt_io.specs.Lines.{Line}
use Rattle.commands.specs.Failing.{FeedReadFailed, HasRoom, InputReadFailed, IsFrontWritten, NothingFails, WriteFailed}
use Rattle.commands.specs.Runs.{Begins, WritesFront}
use Rattle.commands.specs.Seen.{FeedSeen, StreamSeen}
use Rattle.commands.specs.Tasks.{Task}

-- what can never fail counts no fault
pub never-counted : (before now : Faults) → before.can ≡ never → ¬ (Some now ≡ counted before)
never-counted before now is one = none-some now (sym (rw is at one))

-- where a fault is counted, the count rose
pub rose : (can : CanFail) (before now : ℕ) (after : CanFail) → Some (record { count = now; can = after }) ≡ counted (record { count = before; can = can }) → one_more before ≤ now
rose at_any_call before now after is = omega (arith, ap (λ (f : Faults). f.count) (same_Some _ _ is))
rose never before now after is = absurd (none-some _ (sym is))
rose (once_full room) before now after is = omega (arith, ap (λ (f : Faults). f.count) (same_Some _ _ is))

-- and the object can fail as before
pub same-room : (room : ℕ) (before now : Faults) → before.can ≡ once_full room → Some now ≡ counted before → now.can ≡ once_full room
same-room room before now is one = ap (λ (f : Faults). f.can) (same_Some _ _ (rw is at one))

-- what is full by its room has so many bytes
pub full-by : (room : ℕ) (now : Faults) (written : List ℕ) → now.can ≡ once_full room → IsFull now (Some written) → room ≤ length written
full-by room now written is full = rw is at full

-- bytes that grow are told
pub told-after : (old new : Option (List ℕ)) (held bytes : List ℕ) → old ≡ Some held → Appends old new bytes → (written : List ℕ) × (new ≡ Some written)
told-after None new held bytes is grows = absurd (none-some held is)
told-after (Some xs) None held bytes is grows = absurd grows
told-after (Some xs) (Some ys) held bytes is grows = (ys, refl)

-- a front, and what is left of it, is a front
pub more-of : {Failed : Type 0} (old : Option (List ℕ)) (new bytes : List ℕ)
    → Failed → AppendsFront Failed old (Some new) bytes → (more : List ℕ) × (0 < length more) × AppendsFront ⊥ old (Some (new ++ more)) bytes
more-of old new bytes failed f = (
  f.rest,
  f.not_all failed,
  record {
    front = bytes;
    rest = [];
    written = subst (Appends old (Some (new ++ f.rest))) f.all (grown old new f.front f.rest f.written);
    all = append-nil bytes;
    not_all = λ is. absurd is;
  },
) where
  grown : (before : Option (List ℕ)) (now front rest : List ℕ) → Appends before (Some now) front → Appends before (Some (now ++ rest)) (front ++ rest)
  grown None now front rest w = tt
  grown (Some xs) now front rest w = ap (λ (l : List ℕ). l ++ rest) w ∙ append_assoc xs front rest

-- bytes that are longer than these are a front
abbrev IsLonger : List ℕ → (List ℕ → Type 0) → Type 0
IsLonger new IsFront = (more : List ℕ) × (0 < length more) × IsFront (new ++ more)

-- where a write failed, there is a longer front than the one that is written
longer-first : {Failed : Type 0} {Are : List Line → List ℕ → Type 0} {lines : List Line} {old : Option (List ℕ)} (new : List ℕ)
    → Failed → AppendsFirst Failed Are lines old (Some new) → IsLonger new (λ w. AppendsFirst ⊥ Are lines old (Some w))
longer-first {old = old} new failed f =
    let more = more-of old new f.shown failed f.front in
    (more.0, more.1, record { first = f.first; later = f.later; shown = f.shown; split = f.split; is = f.is; front = more.2 })

longer-whole : {Failed : Type 0} (IsWhole Are : List Line → List ℕ → Type 0) {lines : List Line} {old : Option (List ℕ)} (new : List ℕ)
    → Failed → AppendsWholeFront Failed IsWhole Are lines old (Some new) → IsLonger new (λ w. AppendsWholeFront ⊥ IsWhole Are lines old (Some w))
longer-whole IsWhole Are new failed (inl first) = let more = longer-first new failed first in (more.0, more.1, inl more.2)
longer-whole IsWhole Are {old = old} new failed (inr all) = let more = more-of old new all.0 failed all.2 in (more.0, more.1, inr (all.0, all.1, more.2))

pub longer : {Failed : Type 0} (IsWhole Are : List Line → List ℕ → Type 0) {budget : ℕ} {left left_now old : Option (List ℕ)} (new : List ℕ)
    → Failed → AppendsTakenFront Failed IsWhole Are budget left left_now old (Some new)
    → IsLonger new (λ w. AppendsTakenFront ⊥ IsWhole Are budget left left_now old (Some w))
longer IsWhole Are new failed t = elim t.front [
  | inl first ↦ (let more = longer-first new failed first in (more.0, more.1, record { bytes = t.bytes; took = t.took; front = inl more.2 }))
  | inr whole ↦ (let more = longer-whole IsWhole Are new failed whole.1 in (more.0, more.1, record { bytes = t.bytes; took = t.took; front = inr (whole.0, more.2) }))
]

-- what was written of a front is told where it was told before
front-told : {Failed : Type 0} {IsWhole Are : List Line → List ℕ → Type 0} {budget : ℕ} {left left_now : Option (List ℕ)}
    (old new : Option (List ℕ)) (held : List ℕ) → old ≡ Some held → AppendsTakenFront Failed IsWhole Are budget left left_now old new
    → (written : List ℕ) × (new ≡ Some written)
front-told old new held is t = elim t.front [
  | inl first ↦ told-after old new held first.front.front is first.front.written
  | inr whole ↦ elim whole.1 [ inl first ↦ told-after old new held first.front.front is first.front.written | inr all ↦ told-after old new held all.2.front is all.2.written ]
]

module _ {B : Type 0} (task : Task B) {budget : ℕ} {words : List (List ℕ)} {feed : FeedSeen} {input out : StreamSeen} where
  -- where nothing fails, no read did
  pub no-read : {one other early : Type 0} → NothingFails task budget words feed input out → (one × other × FeedReadFailed feed input out) ⊎ (InputReadFailed feed input out × early) → ⊥
  no-read (inl none) (inl of_feed) = none.feed_reads (rose feed.faults.can feed.faults.count feed.faults_after.count feed.faults_after.can of_feed.2.feed_reads)
  no-read (inl none) (inr of_input) = none.input_reads (rose input.faults.can input.faults.count input.faults_after.count input.faults_after.can of_input.0.input_reads)
  no-read (inr cannot) (inl of_feed) = never-counted feed.faults feed.faults_after cannot.feed_reads of_feed.2.feed_reads
  no-read (inr cannot) (inr of_input) = never-counted input.faults input.faults_after cannot.input_reads of_input.0.input_reads

  -- an output that has room for each front is not full before the end of one
  has-room : {start : B} → TookAtMost budget input.bytes input.bytes_after → HasRoom (IsFrontWritten task budget words feed.tables input.bytes out.bytes) out
      → WriteFailed feed input out → (begins : Begins task words feed.tables start)
      → AppendsTakenFront (Unit {0}) (task.output.IsWhole start) (task.output.AreReplies start)
      budget input.bytes input.bytes_after out.bytes out.bytes_after → ⊥
  has-room {start = start} few room failed begins front =
      let now = front-told out.bytes out.bytes_after room.held room.told front in
      let more = longer _ _ now.0 tt (rw now.1 at front) in
      let full = full-by room.room out.faults_after now.0 (same-room room.room out.faults out.faults_after room.can failed.0.writes) (rw now.1 at failed.1) in
      absurd (omega (arith, full, more.1, length-append now.0 more.0, room.fits (now.0 ++ more.0) (start, begins, input.bytes_after, few, more.2)))

  -- and no write did
  pub no-write : {Failed : Type 0} {start : B} → TookAtMost budget input.bytes input.bytes_after
      → WritesFront Failed task budget words feed.tables input.bytes input.bytes_after out.bytes out.bytes_after → Begins task words feed.tables start
      → NothingFails task budget words feed input out → Failed → WriteFailed feed input out → ⊥
  no-write few front begins (inl none) is failed = none.writes (rose out.faults.can out.faults.count out.faults_after.count out.faults_after.can failed.0.writes)
  no-write {start = start} few front begins (inr cannot) is failed = elim cannot.writes [
    | inl never_fails ↦ never-counted out.faults out.faults_after never_fails failed.0.writes
    | inr room ↦ has-room few room failed begins (taken_if (λ u. is) (front start begins))
  ]
