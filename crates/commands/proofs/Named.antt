-- The command that the first of some words names.
use Rattle.std.proofs.Common.{◌≡◌, ◌≤◌, ◌<◌, ℕ, List, [], ◌∷◌, length, map, get_or, arith, refl, sym, ap}
use Rattle.std.specs.Option.{unwrap_or}
use Rattle.command_words.specs.declared.words.Command.TheVariants.{Serve}
use Rattle.command_words.specs.Words.{command_of}
use Rattle.commands.specs.Commands.{command_named}

pub named-first : {X : Type 0} (f : X → List ℕ) (ws : List X) (x : X) → 1 ≤ length ws → x ≡ get_or ws 0 x → command_named (map f ws) ≡ unwrap_or (command_of (f x)) Serve
named-first f [] x some is = absurd (omega (arith, some))
named-first f (y ∷ ys) x some is = ap (λ (z : _). unwrap_or (command_of (f z)) Serve) (sym is)

pub named-none : {X : Type 0} (f : X → List ℕ) (ws : List X) → length ws < 1 → command_named (map f ws) ≡ Serve
named-none f [] none = refl
named-none f (y ∷ ys) none = absurd (omega (arith, none))
