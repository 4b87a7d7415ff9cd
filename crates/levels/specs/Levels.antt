-- Levels: what events and controls make of one, which one may enter, and which one exits.
use Rattle.std.specs.Prelude.{◌≡◌, ℕ, zero, suc, ◌+◌, ◌-◌, ◌*◌, ◌^◌, Bool, true, false, cond, not, ◌&&◌, List, Some, None, Option, ◌==◌, nat_lt, slice_index_or, slice_set}
use Rattle.std.specs.Option.{option_map_or, option_or}
use Rattle.std.specs.List.{find, range_with_len}
use Rattle.levels.specs.declared.level.LevelControl.{LevelControl}
use Rattle.levels.specs.declared.level.LevelControl.TheVariants.{Disarm as DisarmControl, Arm as ArmControl, Disable, Enable, Trigger as TriggerControl}
use Rattle.levels.specs.declared.level.Property.{Property}
use Rattle.levels.specs.declared.level.Property.TheVariants.{Enabled as EnabledProperty, Waiting as WaitingProperty, Active as ActiveProperty}
use Rattle.levels.specs.declared.level.Sight.{Sight}
use Rattle.levels.specs.declared.level.Sight.TheVariants.{Enters, Blocks, Passes}
use Rattle.levels.specs.Bits.{bit, one}
use Rattle.levels.specs.declared.level.Event.{Event}
use Rattle.levels.specs.declared.level.Event.TheVariants.{Disarm, Arm, Trigger, Enter, Exit, Violate}
use Rattle.levels.specs.declared.level.Level.{Level}
use Rattle.levels.specs.declared.level.LevelState.{LevelState}
use Rattle.levels.specs.declared.level.LevelState.TheVariants.{Disarmed, Armed, Waiting, Active}

-- the next state, by the present state and the event
abbrev pub next_state : LevelState → Event → LevelState
next_state Disarmed Disarm = Disarmed
next_state Disarmed Arm = Armed
next_state Disarmed Trigger = Disarmed
next_state Disarmed Enter = Disarmed
next_state Disarmed Exit = Disarmed
next_state Disarmed Violate = Waiting
next_state Armed Disarm = Disarmed
next_state Armed Arm = Armed
next_state Armed Trigger = Waiting
next_state Armed Enter = Armed
next_state Armed Exit = Armed
next_state Armed Violate = Waiting
next_state Waiting Disarm = Disarmed
next_state Waiting Arm = Waiting
next_state Waiting Trigger = Waiting
next_state Waiting Enter = Active
next_state Waiting Exit = Waiting
next_state Waiting Violate = Waiting
next_state Active Disarm = Active
next_state Active Arm = Active
next_state Active Trigger = Active
next_state Active Enter = Active
next_state Active Exit = Armed
next_state Active Violate = Active

-- a level's record after an event, which leaves the enabling
abbrev pub taken : Level → Event → Level
taken l e = record { state = next_state l.state e; enabled = l.enabled }

-- the record that the number n of an image sets: 0 disarmed, 2 armed and enabled, and any other armed and disabled
abbrev pub preset : ℕ → Level
preset n = record { state = cond (n == 0) Disarmed Armed; enabled = (n == 2) }

-- a level enabled, or not
abbrev pub enabling : Bool → Level → Level
enabling b l = record { state = l.state; enabled = b }

-- a level after a control of WD
abbrev pub controlled : LevelControl → Level → Level
controlled DisarmControl l = taken l Disarm
controlled ArmControl l = taken l Arm
controlled Disable l = enabling false l
controlled Enable l = enabling true l
controlled TriggerControl l = taken l Trigger

-- the record of level k
abbrev pub level_at : List Level → ℕ → Level
level_at ls k = slice_index_or ls k (preset 0)

-- the records after level k has taken an event; the other fifteen keep theirs
abbrev pub told : ℕ → Event → List Level → List Level
told k e ls = slice_set ls k (taken (level_at ls k) e)

-- of the n levels from k on, those whose bit in a is 1 take a control, one after the other
unfoldable pub control_each : ℕ → ℕ → LevelControl → ℕ → List Level → List Level
control_each zero k c a ls = ls
control_each (suc n) k c a ls = control_each n (suc k) c a (cond (bit a k) (slice_set ls k (controlled c (level_at ls k))) ls)

-- whether a state is waiting
abbrev pub is_waiting : LevelState → Bool
is_waiting Disarmed = false
is_waiting Armed = false
is_waiting Waiting = true
is_waiting Active = false

-- whether a state is active
abbrev pub is_active : LevelState → Bool
is_active Disarmed = false
is_active Armed = false
is_active Waiting = false
is_active Active = true

-- what RD shows of a level
abbrev pub has : Property → Level → Bool
has EnabledProperty l = l.enabled
has WaitingProperty l = is_waiting l.state
has ActiveProperty l = is_active l.state

-- a word with bit k set for each of the n levels from k on that has a property
unfoldable pub bits_of : ℕ → ℕ → Property → List Level → ℕ
bits_of zero k p ls = 0
bits_of (suc n) k p ls = one (has p (level_at ls k)) * 2 ^ (15 - k) + bits_of n (suc k) p ls

-- no level waits
abbrev pub Quiet : List Level → Type 0
Quiet ls = (k : ℕ) → is_waiting (level_at ls k).state ≡ false

-- levels 0 and 1 are never inhibited; II inhibits 2 to 7, and EI 8 to 15
abbrev pub inhibited : Bool → Bool → ℕ → Bool
inhibited ii ei k = cond (nat_lt k 2) false (cond (nat_lt k 8) ii ei)

-- an uninhibited level enters if it is waiting and enabled, and blocks those of a higher number if it is active
abbrev pub sighted_by : Bool → LevelState → Bool → Sight
sighted_by true s e = Passes
sighted_by false Disarmed e = Passes
sighted_by false Armed e = Passes
sighted_by false Waiting true = Enters
sighted_by false Waiting false = Passes
sighted_by false Active e = Blocks

-- what a level means for those of a higher number, by whether it is inhibited
abbrev pub sighted : Bool → Level → Sight
sighted hidden l = sighted_by hidden l.state l.enabled

-- level k where it enters, none where it blocks, else what the rest gives
abbrev pub choose : Sight → ℕ → Option ℕ → Option ℕ
choose Enters k rest = Some k
choose Blocks k rest = None
choose Passes k rest = rest

-- of the n levels from k on, the lowest that may enter
unfoldable pub lowest : ℕ → ℕ → Bool → Bool → List Level → Option ℕ
lowest zero k ii ei ls = None
lowest (suc n) k ii ei ls = choose (sighted (inhibited ii ei k) (level_at ls k)) k (lowest n (suc k) ii ei ls)

-- whether level k is active and not inhibited
abbrev pub active_uninhibited : Bool → Bool → List Level → ℕ → Bool
active_uninhibited ii ei ls k = is_active (level_at ls k).state && not (inhibited ii ei k)

-- the lowest level of 0 to 15 that is active and not inhibited
unfoldable pub lowest_uninhibited : Bool → Bool → List Level → Option ℕ
lowest_uninhibited ii ei ls = find (active_uninhibited ii ei ls) (range_with_len 0 16)

-- the level that an exit clears: the lowest active one that is not inhibited; where all active ones are inhibited, the lowest of them,
-- which is the one that is found with II and EI 0
abbrev pub cleared : Bool → Bool → List Level → Option ℕ
cleared ii ei ls = option_or (lowest_uninhibited ii ei ls) (lowest_uninhibited false false ls)

-- the records after that level, if there is one, has taken the exit event
unfoldable pub released : Bool → Bool → List Level → List Level
released ii ei ls = option_map_or (λ k. told k Exit ls) (cleared ii ei ls) ls
