-- The summary of so many trains.
use Rattle.std.proofs.Common.{◌≡◌, ◌∙◌, ◌≤◌, ℕ, List, [], ◌∷◌, All, Ok, arith, ap, sym, subst, true, length}
use Rattle.mt_base.specs.declared.options.Opts.{Opts}
use Rattle.mt_base.specs.declared.tables.Tables.{Tables}
use Rattle.delay_model.specs.declared.network.Network.{Network}
use Rattle.delay_model.specs.declared.state.State.{State}
use Rattle.command_words.specs.GenWords.{default_options}
use Rattle.feed_gen.specs.Lines.{input}
use Rattle.feed_gen.specs.Tables.{files}
use Rattle.feed_gen_laws.specs.Timetables.{HoldsTimetable}
use Rattle.feed_gen_laws.proofs.Timetable.{made-timetable}
use Rattle.feed_load.specs.Loaded.{loaded}
use Rattle.gtfs_tables.specs.Feeds.{contents_of, tables_of}
use Rattle.information_service.specs.Networks.{IsSame}
use Rattle.mt_io.specs.Lines.{Line, lines_of}
use Rattle.query_crew.specs.Windows.{windows_of}
use Rattle.window_service.specs.declared.sums.ReplySums.{ReplySums}
use Rattle.window_service.specs.Summary.{summary_line}
use Rattle.schedule_build.specs.Directory.{Names}
use Rattle.window_service.specs.SameSums.{AreApart}
use Rattle.window_service.specs.Summed.{AreSummed}
use Rattle.window_service.proofs.Networks.{summed-same}
use Rattle.window_service.proofs.SameSums.{same-sums}
use Rattle.commands.specs.Feeds.{network}
use Rattle.commands.specs.Summaries.{IsSummary, IsOnlySummary}
use Rattle.commands.proofs.MadeLines.{made-apart}

-- the lines have the same sums in timetables that are the same
sums-alike : (lines : List Line) (a b : Network) (m n : Names) (s t : State) (x y : ReplySums)
    → All AreApart (windows_of lines) → b ≡ a → n ≡ m → t ≡ s → AreSummed a m s lines x → AreSummed b n t lines y → y ≡ x
sums-alike lines a b m n s t x y apart network names state p q =
    same-sums a m s lines y x apart
    (subst (λ (st : State). AreSummed a m st lines y) state (subst (λ (ns : Names). AreSummed a ns t lines y) names (subst (λ (nw : Network). AreSummed nw n t lines y) network q))) p

only-one : (trains : ℕ) (line other : List ℕ) → trains ≤ 100000 → IsSummary trains line → IsSummary trains other → other ≡ line
only-one trains line other few x y =
    let rows : y.rows ≡ x.rows = grind (arith, x.rows_are, y.rows_are) in
    let state : y.state ≡ x.state = grind (arith, x.holds, y.holds) in
    let names : y.names ≡ x.names = grind (arith, x.holds, y.holds) in
    let sums : y.sums ≡ x.sums =
    sums-alike (lines_of true (input trains)) (network x.rows default_options) (network y.rows default_options) x.names y.names x.state y.state x.sums y.sums (made-apart trains few)
    (ap (λ (r : Tables). network r default_options) rows) names state x.summed y.summed in
    y.line_is ∙ ap (λ (s : ReplySums). summary_line s (length y.state.trains)) sums ∙ ap (λ (s : State). summary_line x.sums (length s.trains)) state ∙ sym x.line_is

-- the sums over the replies in the timetable that was loaded, as a line, are the summary
made-summary : (trains : ℕ) (line : List ℕ) (made : Network) (state : State) (names : Names) (sums : ReplySums) → trains ≤ 100000 → HoldsTimetable trains [] default_options
    → loaded (contents_of (files trains) []) 20260105 1 (0 ∷ []) default_options ≡ Ok (state, names)
    → ((rows : Tables) → tables_of (contents_of (files trains) []) ≡ Ok rows → IsSame (network rows default_options) made)
    → AreSummed made names state (lines_of true (input trains)) sums → line ≡ summary_line sums (length state.trains) → IsOnlySummary trains line
made-summary trains line made state names sums few holds held same summed is =
    let summary : IsSummary trains line = record {
      rows = holds.rows;
      state = state;
      names = names;
      sums = sums;
      rows_are = holds.rows_are;
      holds = held;
      one_each = grind (arith, holds.holds, held, holds.one_each);
      summed = summed-same (network holds.rows default_options) made (same holds.rows holds.rows_are) names state _ sums summed;
      line_is = is;
    } in
    record { is = summary; only = λ other is_other. only-one trains line other few summary is_other }

-- the same for a feed of as many trains, and for these options
pub made-summary-by : (trains n : ℕ) (o : Opts) (line : List ℕ) (made : Network) (state : State) (names : Names) (sums : ReplySums) → n ≡ trains → o ≡ default_options → 1 ≤ trains → trains ≤ 100000
    → loaded (contents_of (files n) []) 20260105 1 (0 ∷ []) o ≡ Ok (state, names) → ((rows : Tables) → tables_of (contents_of (files n) []) ≡ Ok rows → IsSame (network rows o) made)
    → AreSummed made names state (lines_of true (input trains)) sums → line ≡ summary_line sums (length state.trains) → IsOnlySummary trains line
made-summary-by trains n o line made state names sums number options some few held same summed is =
    made-summary trains line made state names sums few (made-timetable trains [] default_options some few)
    (subst (λ (m : ℕ). loaded (contents_of (files m) []) 20260105 1 (0 ∷ []) default_options ≡ Ok (state, names)) number
    (subst (λ (p : Opts). loaded (contents_of (files n) []) 20260105 1 (0 ∷ []) p ≡ Ok (state, names)) options held))
    (λ rows are.
    subst (λ (p : Opts). IsSame (network rows p) made) options (same rows (subst (λ (m : ℕ). tables_of (contents_of (files m) []) ≡ Ok rows) (sym number) are)))
    summed is
