-- Where no edge between trains is found.
use Rattle.edge_rules.proofs.Words.{◌≡◌, ℕ, Bool, true, false, nat_eq, List, [], length, None, arith, cond, nat_tests, All-filter, filter_passes, Node, Entry, Override, State, Event, wait_between, transfer, event_named, connection, wait, HasLiveEvent, HaveLiveEvents, of_entry, planned_with, planned_by, planned_at, kept_with, kept_at, of_name, GraphState, Wanted, Into, WaitsAt, Change, nil_from_length, connection_cmp, has_call, are_into, can_be_at}
use mathlib.Core.Bool.{beq}
use Rattle.std.specs.FinMap as finmap
use Rattle.std.specs.FinMap.{FinMap, get-empty, empty_of_len}
use Rattle.station_index.specs.Indexed.{entries_in}
use Rattle.train_nodes.specs.Keeps.{kept_into, kept_from}
use Rattle.edge_rules.proofs.Neighbours.{named-there}
use Rattle.edge_rules.proofs.InLine.{filter-none}
use Rattle.edge_rules.proofs.PieceLemmas.{pieces-none}

-- where none can be, and where the one train does not wait for the other
planned-none : (g : GraphState) (es : List Entry) (wanted : Wanted) (v : Event) → (can_be_at wanted v ≡ true → (u : Event) → cond (are_into wanted) (wait_between g.network u v) (wait_between g.network v u) ≡ 0) → planned_at g es wanted v ≡ []
planned-none g es wanted v none =
    pieces-none (planned_by g es wanted v) _ (λ i d l. pieces-none (of_entry g.state (planned_with g wanted v _)) _ (λ j e m. grind (arith, nat_tests, none)))

-- edges between trains lead to departures and leave arrivals, change nothing by a time that is not after the schedule, and are planned by rules
pub planned_not : (g : GraphState) (es : List Entry) (wanted : Wanted) (v : Event) → (can_be_at wanted v ≡ true → nat_eq (length g.network.rules) 0 ≡ true) → planned_at g es wanted v ≡ []
unfolding wait
planned_not g es wanted v h = planned-none g es wanted v (λ at u. grind (arith, nat_tests, h at, nil_from_length g.network.rules))

-- a departure whose train waits for none
pub planned_into : (g : GraphState) (es : List Entry) (waits : WaitsAt) (v : Event) → (v.key.dep ≡ true → (u : Event) → wait_between g.network u v ≡ 0) → planned_at g es (Into waits) v ≡ []
planned_into g es waits v h = planned-none g es (Into waits) v h

-- where no train waits at the stop of a change
pub planned-unwaited : (g : GraphState) (es : List Entry) (wanted : Wanted) (v : Event) (c : Change) → HaveLiveEvents g.state es → are_into wanted ≡ false → ((feeder connecting : ℕ) → wait g.network.stops g.network.rules feeder connecting c.stop ≡ 0) → planned_by g es wanted v c ≡ []
planned-unwaited g es wanted v c h from none =
    pieces-none (of_entry g.state (planned_with g wanted v c.seconds)) _ (λ i d l. grind (arith, nat_tests, All-filter _ (HasLiveEvent g.state) es h i d l, filter_passes _ es i d l, none))

-- nothing is kept or dropped where there is no override
pub not-chosen : (m : FinMap connection_cmp Override) (a b : Node) → nat_eq (finmap.len m) 0 ≡ true → finmap.get m (connection a b) ≡ None
not-chosen m a b h = grind (arith, nat_tests, empty_of_len m, get-empty {X = Override} connection_cmp (connection a b))

pub kept_not : (g : GraphState) (into : Bool) (v : Event) → (beq v.key.dep into ≡ true → nat_eq (finmap.len g.state.overrides) 0 ≡ true) → kept_at g into v ≡ []
unfolding transfer kept_into kept_from
kept_not g into v h =
    pieces-none (of_name g.state (kept_with g into v)) _ (λ i d l. grind (arith, nat_tests, h, nil_from_length (finmap.entries g.state.overrides), finmap.len-entries g.state.overrides))

-- the event of a call that is not there is not there
pub no-event : (st : State) (n : Node) → has_call st n.train n.label ≡ false → event_named st n ≡ None
no-event st n h = grind (arith, named-there st n)

-- entries of live events
pub live_in : (st : State) (es : List Entry) (stop : ℕ) (dep : Bool) (lo hi : ℕ) → HaveLiveEvents st es → HaveLiveEvents st (entries_in stop dep lo hi es)
live_in st es stop dep lo hi h = All-filter _ (HasLiveEvent st) es h

-- what is needed where no edges between trains are found, and of entries that are near
pub ruleset none_found = (nat_tests, planned_not, planned_into, kept_not, filter-none, planned-unwaited, live_in)
