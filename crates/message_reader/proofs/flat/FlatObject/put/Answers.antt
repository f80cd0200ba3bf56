use Rattle.message_reader.specs.declared.members.Key.TheVariants as keys
use Rattle.message_reader.proofs.FlatLemmas.{put-key}
use Rattle.message_reader.proofs.flat.FlatObject.put.Goals as goal

pub returns-in-Call : goal.returns-in-Call
returns-in-Call c = rw c.in-Call.is (put-key keys.Call c.args.scalar c.args.self.now)

pub returns-in-Client : goal.returns-in-Client
returns-in-Client c = rw c.in-Client.is (put-key keys.Client c.args.scalar c.args.self.now)

pub returns-in-Date : goal.returns-in-Date
returns-in-Date c = rw c.in-Date.is (put-key keys.Date c.args.scalar c.args.self.now)

pub returns-in-Event : goal.returns-in-Event
returns-in-Event c = rw c.in-Event.is (put-key keys.Event c.args.scalar c.args.self.now)

pub returns-in-From : goal.returns-in-From
returns-in-From c = rw c.in-From.is (put-key keys.From c.args.scalar c.args.self.now)

pub returns-in-Route : goal.returns-in-Route
returns-in-Route c = rw c.in-Route.is (put-key keys.Route c.args.scalar c.args.self.now)

pub returns-in-Time : goal.returns-in-Time
returns-in-Time c = rw c.in-Time.is (put-key keys.Time c.args.scalar c.args.self.now)

pub returns-in-To : goal.returns-in-To
returns-in-To c = rw c.in-To.is (put-key keys.To c.args.scalar c.args.self.now)

pub returns-in-Trip : goal.returns-in-Trip
returns-in-Trip c = rw c.in-Trip.is (put-key keys.Trip c.args.scalar c.args.self.now)

pub returns-in-Kind : goal.returns-in-Kind
returns-in-Kind c = rw c.in-Kind.is (put-key keys.Kind c.args.scalar c.args.self.now)

pub returns-in-Version : goal.returns-in-Version
returns-in-Version c = rw c.in-Version.is (put-key keys.Version c.args.scalar c.args.self.now)
