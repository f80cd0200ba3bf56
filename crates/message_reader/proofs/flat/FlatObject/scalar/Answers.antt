use Rattle.message_reader.specs.declared.members.Key.TheVariants as keys
use Rattle.message_reader.proofs.FlatLemmas.{get-key}
use Rattle.message_reader.proofs.flat.FlatObject.scalar.Goals as goal

pub returns-in-Call : goal.returns-in-Call
returns-in-Call c = rw c.in-Call.is (get-key keys.Call c.args.self.now)

pub returns-in-Client : goal.returns-in-Client
returns-in-Client c = rw c.in-Client.is (get-key keys.Client c.args.self.now)

pub returns-in-Date : goal.returns-in-Date
returns-in-Date c = rw c.in-Date.is (get-key keys.Date c.args.self.now)

pub returns-in-Event : goal.returns-in-Event
returns-in-Event c = rw c.in-Event.is (get-key keys.Event c.args.self.now)

pub returns-in-From : goal.returns-in-From
returns-in-From c = rw c.in-From.is (get-key keys.From c.args.self.now)

pub returns-in-Route : goal.returns-in-Route
returns-in-Route c = rw c.in-Route.is (get-key keys.Route c.args.self.now)

pub returns-in-Time : goal.returns-in-Time
returns-in-Time c = rw c.in-Time.is (get-key keys.Time c.args.self.now)

pub returns-in-To : goal.returns-in-To
returns-in-To c = rw c.in-To.is (get-key keys.To c.args.self.now)

pub returns-in-Trip : goal.returns-in-Trip
returns-in-Trip c = rw c.in-Trip.is (get-key keys.Trip c.args.self.now)

pub returns-in-Kind : goal.returns-in-Kind
returns-in-Kind c = rw c.in-Kind.is (get-key keys.Kind c.args.self.now)

pub returns-in-Version : goal.returns-in-Version
returns-in-Version c = rw c.in-Version.is (get-key keys.Version c.args.self.now)
