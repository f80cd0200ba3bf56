-- What holds of the bounds by the routes.
use Rattle.waiting_rules.specs.Bounded.{AreInOrder, AreStarts}
use Rattle.waiting_rules.specs.declared.routes.RouteBounds.TheInside.{Inside}

-- the bounds are in the order of trains, and each row begins at its place
pub record IsRouted (a : Inside) : Type 0 where
  pub order : AreInOrder a.bounds.items
  pub starts : AreStarts a.bounds.items a.starts.items
