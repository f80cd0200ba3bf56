-- A worked journal: its header, and the forecast of one arrival.
use Rattle.std.specs.Prelude.{ℕ, List, ◌++◌, None, false, codes}
use Rattle.train_nodes.specs.declared.kinds.ValueKind.TheVariants.{Forecast}
use Rattle.message_reader.specs.declared.wire.Wire.{Wire}
use Rattle.message_reader.specs.declared.wire.Wire.TheVariants.{Event}
use Rattle.journal_lines.specs.declared.heads.Head.{Head}

-- one day from 5 January 2026 on, and the options that hold where none is given, without slack
abbrev pub worked_head : Head
worked_head = record {
  first = 20260105;
  days = 1;
  opts = record {
    slack = 0;
    stop = 60;
    change = 180;
    window = 1800;
    spare_trains = 200;
    spare_calls = 4000;
    overrides = 10000;
  };
  zone = None;
}

abbrev pub worked_header_text : List ℕ
worked_header_text = codes "{\"change\":180,\"days\":1,\"from\":\"20260105\",\"journal\":1,"
    ++ (codes "\"overrides\":10000,\"slack\":0,\"spare_calls\":4000,\"spare_trains\":200,"
    ++ codes "\"stop\":60,\"window\":1800,\"zone\":null}\n")

-- the train of the trip T1 is expected at its second call at 08:36:00
abbrev pub worked_message : Wire
worked_message = Event Forecast (codes "T1") 20260105 1 false 30960

abbrev pub worked_message_text : List ℕ
worked_message_text = codes "{\"call\":1,\"date\":\"20260105\",\"event\":\"arr\","
    ++ codes "\"time\":\"08:36:00\",\"trip\":\"T1\",\"type\":\"forecast\",\"v\":2}\n"
