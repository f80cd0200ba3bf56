-- The lines of a journal. Its first is its header, and each line behind it is an accepted message,
-- as these two:
-- {"change":180,"days":1,"from":"20260105","journal":1,"overrides":10000,"slack":0,
--   "spare_calls":4000,"spare_trains":200,"stop":60,"window":1800,"zone":null}
-- {"call":1,"date":"20260105","event":"arr","time":"08:36:00","trip":"T1","type":"forecast","v":2}
use Rattle.std.specs.Prelude.{◌≡◌, ℕ, List, All, Some, None, codes, true}
use Rattle.std.specs.declared.option.Option.{Option}
use Rattle.std.specs.Str.{is_utf8}
use Rattle.serde_json.specs.Data.{unsigned, Data, null, number, string, object, no_members, member}
use Rattle.message_reader.specs.declared.wire.WireCall.{WireCall}
use Rattle.message_reader.specs.declared.wire.Wire.{Wire}
use Rattle.message_reader.specs.declared.wire.Wire.TheVariants.{Event, Correct, Withdraw, Cancel, Reroute, Extra, Connect}
use Rattle.message_reader.specs.Spelled.{date_text, object_of}
use Rattle.delay_report.specs.Replies.{line_of}
use Rattle.journal_lines.specs.declared.heads.Head.{Head}

-- the line of a message: it is said in version 2, which has every type of message
unfoldable pub text_of_message : Wire → List ℕ
text_of_message w = line_of (object_of 2 w)

-- the text of a zone, or null where there is none
abbrev pub zone_or_null : Option (List ℕ) → Data
zone_or_null None = null
zone_or_null (Some zone) = string zone

-- the object of a header
abbrev pub head_object : Head → Data
head_object h =
    object (member (codes "change") (number (unsigned h.opts.change))
    (member (codes "days") (number (unsigned h.days))
    (member (codes "from") (string (date_text h.first))
    (member (codes "journal") (number (unsigned 1))
    (member (codes "overrides") (number (unsigned h.opts.overrides))
    (member (codes "slack") (number (unsigned h.opts.slack))
    (member (codes "spare_calls") (number (unsigned h.opts.spare_calls))
    (member (codes "spare_trains") (number (unsigned h.opts.spare_trains))
    (member (codes "stop") (number (unsigned h.opts.stop))
    (member (codes "window") (number (unsigned h.opts.window))
    (member (codes "zone") (zone_or_null h.zone) no_members)))))))))))

-- the line of a header
unfoldable pub text_of_head : Head → List ℕ
text_of_head h = line_of (head_object h)

-- the stop's id is a text in UTF-8
abbrev pub HasStopText : WireCall → Type 0
HasStopText c = is_utf8 c.stop ≡ true

-- the names of a message are texts in UTF-8, as those of every message that was read
abbrev pub HasTexts : Wire → Type 0
HasTexts (Event kind trip date call dep secs) = is_utf8 trip ≡ true
HasTexts (Correct trip date call dep secs) = is_utf8 trip ≡ true
HasTexts (Withdraw trip date call dep) = is_utf8 trip ≡ true
HasTexts (Cancel trip date from to) = is_utf8 trip ≡ true
HasTexts (Reroute trip date from to via) = (is_utf8 trip ≡ true) × All HasStopText via
HasTexts (Extra trip date route calls) =
    (is_utf8 trip ≡ true) × (is_utf8 route ≡ true) × All HasStopText calls
HasTexts (Connect kind feeder train) = (is_utf8 feeder.trip ≡ true) × (is_utf8 train.trip ≡ true)
