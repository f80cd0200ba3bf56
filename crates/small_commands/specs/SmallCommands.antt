-- What the two small commands write, and what the second one loads behind the feed.
use Rattle.std.specs.Prelude.{◌≡◌, ℕ, List, [], ◌∷◌, ◌++◌, codes, decimal, if◌then◌else◌, nat_eq, Option, Some, None, Result, Ok, Err}
use Rattle.commands.specs.LineTasks.{Behind, Start}
use Rattle.mt_io.specs.Lines.{Line, short, long}
use Rattle.information_service.specs.Answering.{LineOutput}
use Rattle.information_service.specs.ServiceState.{ServiceState, after_line}
use Rattle.information_service.specs.TimesOutput.{IsReplied}

-- a reply to each line, and the number of accepted messages behind the last
abbrev pub counted_output : LineOutput (Unit {0})
counted_output = record {
  fits = λ t kept. Unit {0};
  begins = λ t kept. [];
  answers = λ t kept number x text now kept_now. IsReplied t number x text now;
  ends = λ t kept. decimal t.count ++ codes "\n";
}

-- a mark, a line that is not long, and its end
abbrev pub text_of_line : ℕ → Line → List ℕ
text_of_line mark (short bytes) = mark ∷ [] ++ bytes ++ 10 ∷ []
text_of_line mark long = []

-- the line leaves the service so, and it is shown where its message is accepted
pub record IsShownIfAccepted (t : ServiceState) (mark : ℕ) (x : Line) (text : List ℕ)
    (now : ServiceState) (mark_now : ℕ) : Type 0 where
  pub leaves : now ≡ after_line t x
  pub same_mark : mark_now ≡ mark
  pub text_is : text ≡ (if nat_eq now.count t.count then [] else text_of_line mark x)

-- a header, and behind it the lines whose messages are accepted
abbrev pub accepted_output : LineOutput ℕ
accepted_output = record {
  fits = λ t mark. Unit {0};
  begins = λ t mark. codes "accepted\n";
  answers = λ t mark number x text now mark_now. IsShownIfAccepted t mark x text now mark_now;
  ends = λ t mark. [];
}

-- the only byte of a table, if that is no line end; a plus where there is no table
abbrev pub mark_of : Option (List ℕ) → Option ℕ
mark_of None = Some 43
mark_of (Some []) = None
mark_of (Some (mark ∷ [])) = if nat_eq mark 10 then None else Some mark
mark_of (Some (mark ∷ other ∷ rest)) = None

-- the command keeps its mark, or refuses the table
abbrev pub begun_with : ServiceState → Option ℕ → Result (Start ℕ) (List ℕ)
begun_with t (Some mark) = Ok (record { service = t; kept = mark })
begun_with t None = Err (codes "traind: no mark\n")

-- it takes the mark of `mark.txt`
abbrev pub mark_behind : Behind ℕ
mark_behind = record {
  table = Some (codes "mark.txt");
  begins = λ asked table t. begun_with t (mark_of table);
}
