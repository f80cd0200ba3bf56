-- The line that shows the sums.
use Rattle.std.specs.Prelude.{ℕ, List, codes}
use Rattle.serde_json.specs.Data.{unsigned, Data, number, object, no_members, member}
use Rattle.delay_report.specs.Replies.{line_of}
use Rattle.window_service.specs.declared.sums.ReplySums.{ReplySums}

-- the object of the sums and of the number of trains
abbrev pub summary_object : ReplySums → ℕ → Data
summary_object s trains =
    object (member (codes "accepted") (number (unsigned s.accepted))
    (member (codes "arrivals") (number (unsigned s.arrivals))
    (member (codes "bad") (number (unsigned s.bad))
    (member (codes "changed") (number (unsigned s.changed))
    (member (codes "found") (number (unsigned s.found))
    (member (codes "lines") (number (unsigned s.lines))
    (member (codes "queries") (number (unsigned s.queries))
    (member (codes "refused") (number (unsigned s.refused))
    (member (codes "trains") (number (unsigned trains)) no_members)))))))))

-- the line: the object without blanks, and an LF
unfoldable pub summary_line : ReplySums → ℕ → List ℕ
summary_line s trains = line_of (summary_object s trains)
