-- Laws of every step: what each kind of step changes and leaves, on any machine.
use Rattle.std.specs.Prelude.{◌≡◌, ℕ, ◌+◌, ◌<◌, true, length, Some, ◌≢◌}
use Rattle.levels.specs.declared.level.Event.TheVariants.{Enter, Violate}
use Rattle.machine.specs.declared.call.Outcome.{Outcome}
use Rattle.machine.specs.declared.call.Outcome.TheVariants.{Entered, Idle, Violated, Stalled, NotCarried, Done}
use Rattle.machine.specs.declared.state.Mark.TheVariants.{Unset}
use Rattle.machine.specs.declared.state.Violation.{Violation}
use Rattle.machine.specs.declared.work.Work.{Work}
use Rattle.levels.specs.Levels.{told}
use Rattle.machine.specs.State.{Machine}
use Rattle.machine.specs.Step.{status, step}
use Rattle.machine.specs.Words.{read, word}

-- registers of which P alone is another
abbrev pub at_p : ℕ → Work → Work
at_p n v = record { p = n; l = v.l; t = v.t; x1 = v.x1; x2 = v.x2; e = v.e; a = v.a; o = v.o; c = v.c }

-- the machine t keeps the protect switch and the number of words of the machine m
pub record Kept (m t : Machine) : Type 0 where
  pub switch : t.cpu.switch ≡ m.cpu.switch
  pub size : length t.words ≡ length m.words

-- t comes of m by an entry of level k whose cell reads q
pub record EntersAt (k q : ℕ) (m t : Machine) : Type 0 where
  -- of the registers P alone changes, and it is q + 2
  pub registers : t.cpu.work ≡ at_p (word (q + 2)) m.cpu.work
  -- the status word is at q and P at q + 1, where those words are present
  pub first : q < length m.words → read t.words q ≡ status m.cpu
  pub second : word (q + 1) < length m.words → read t.words (word (q + 1)) ≡ m.cpu.work.p
  -- all other words stay
  pub others : (a : ℕ) → (a ≢ q) → (a ≢ word (q + 1)) → read t.words a ≡ read m.words a
  -- level k takes the entry event
  pub levels : t.cpu.guard.levels ≡ told k Enter m.cpu.guard.levels
  pub protection : t.cpu.guard.protection ≡ m.cpu.guard.protection
  pub ii : t.cpu.guard.ii ≡ m.cpu.guard.ii
  pub ei : t.cpu.guard.ei ≡ m.cpu.guard.ei
  -- PP is 1, and no mark is left
  pub pp : t.cpu.pp ≡ true
  pub mark : t.cpu.mark ≡ Unset
  -- the last address and the latest violation stay
  pub last : t.cpu.last ≡ m.cpu.last
  pub violation : t.cpu.violation ≡ m.cpu.violation

-- t comes of m by a violation or stall x
pub record Fails (x : Violation) (m t : Machine) : Type 0 where
  -- no register and no word changes
  pub registers : t.cpu.work ≡ m.cpu.work
  pub words : t.words ≡ m.words
  -- level 0 takes the violation event, and the guard else stays
  pub levels : t.cpu.guard.levels ≡ told 0 Violate m.cpu.guard.levels
  pub protection : t.cpu.guard.protection ≡ m.cpu.guard.protection
  pub ii : t.cpu.guard.ii ≡ m.cpu.guard.ii
  pub ei : t.cpu.guard.ei ≡ m.cpu.guard.ei
  -- the last address stays, and x is the latest violation
  pub last : t.cpu.last ≡ m.cpu.last
  pub violation : t.cpu.violation ≡ Some x

-- t comes of m by a code that is not carried
pub record Passes (m t : Machine) : Type 0 where
  -- of the registers P alone changes, to the next address
  pub registers : t.cpu.work ≡ at_p (word (m.cpu.work.p + 1)) m.cpu.work
  pub words : t.words ≡ m.words
  pub guard : t.cpu.guard ≡ m.cpu.guard
  -- no mark is left, and the last address is where P was
  pub mark : t.cpu.mark ≡ Unset
  pub last : t.cpu.last ≡ m.cpu.work.p
  pub violation : t.cpu.violation ≡ m.cpu.violation

-- t comes of m by an instruction that is done
pub record Executes (m t : Machine) : Type 0 where
  -- at most one word changes
  pub words : (a : ℕ) × ((b : ℕ) → (b ≢ a) → read t.words b ≡ read m.words b)
  -- the last address is where P was, and the latest violation stays
  pub last : t.cpu.last ≡ m.cpu.work.p
  pub violation : t.cpu.violation ≡ m.cpu.violation

-- what a step comes to, by what it was
abbrev pub ComesTo : Outcome → Machine → Machine → Type 0
ComesTo (Entered k) m t = EntersAt k (read m.words (0x0100 + k)) m t
ComesTo Idle m t = t ≡ m
ComesTo (Violated x) m t = Fails x m t
ComesTo (Stalled x) m t = Fails x m t
ComesTo NotCarried m t = Passes m t
ComesTo Done m t = Executes m t

-- what holds of every step
pub record Steps : Type 0 where
  pub kept : (m : Machine) → Kept m (step m).after
  pub comes_to : (m : Machine) → ComesTo (step m).outcome m (step m).after
