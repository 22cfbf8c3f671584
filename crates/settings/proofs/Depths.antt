-- Accepted nodes and rounds are few enough for their messages to be counted: what `message_count` asks of its callers.
use Prim.Native.Nat.{ℕ, ◌+◌}
use mathlib.Core.Path.{◌≡◌}
use native.Mathlib.Omega.{arith}
use Rattle.rules.specs.Refusals.{settings_refusal}
use Rattle.rules.proofs.Accepted.{LayoutAccepted, settings-accepted, layout_of}
use Rattle.rules.specs.declared.Settings.{Settings}
use Rattle.routes.specs.Needs.{Depth}

pub layout-deep : (n m : ℕ) → LayoutAccepted n m → Depth n (m + 1)
layout-deep n m a = record { few = a.fifteen; deep = omega (arith, a.three); below = omega (arith, a.one, a.enough) }

pub settings-deep : (s : Settings) → settings_refusal s ≡ 0 → Depth s.n (s.m + 1)
settings-deep s pass = layout-deep s.n s.m (layout_of s ((settings-accepted s).0 pass))
