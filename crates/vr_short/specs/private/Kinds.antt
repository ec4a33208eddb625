-- What goes with a message.
use Rattle.std.specs.Prelude.{◌≡◌, Bool, true, false}
use Rattle.vr_state.specs.declared.message.PeerMessage.{PeerMessage}
use Rattle.vr_state.specs.declared.message.PeerMessage.TheVariants.{StartViewChange, DoViewChange, StartView}
use Rattle.vr_short.specs.declared.noting.Kind.{Kind}
use Rattle.vr_short.specs.declared.noting.Kind.TheVariants as kind

-- what goes with it
abbrev pub kind_of : {P : Type 0} → PeerMessage P → Kind
kind_of (DoViewChange v c) = kind.Log
kind_of (StartView v held) = kind.Log
kind_of (StartViewChange v) = kind.Start
kind_of _ = kind.Other

-- the message is of this kind
abbrev pub GoesWith : {P : Type 0} → Kind → PeerMessage P → Type 0
GoesWith k m = k ≡ kind_of m
