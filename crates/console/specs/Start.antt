-- A processor that is set going with an image.
use Rattle.std.specs.Prelude.{◌≡◌, ℕ, Bool, List, Ok}
use Rattle.image.specs.declared.Record.{Record}
use Rattle.image.specs.Reading.{verdict}
use Rattle.machine.specs.Calls.{gone}
use Rattle.memory.specs.declared.core_memory.Core.{Core}
use Rattle.memory.specs.Words.{front}
use Rattle.engine.specs.declared.processor.Processor.{Processor}
use Rattle.engine.specs.declared.processor.Running.{Running}
use Rattle.engine.specs.Loads.{loaded}
use Rattle.engine.specs.View.{seen}
use Rattle.listing.specs.Listing.{blank}

-- a processor over core memory that goes
abbrev pub Going : Type 0
Going = Processor Running Core

-- an image is accepted, and what is done is done with a processor that is the loaded machine set going
pub record Started (bytes : List ℕ) (protect : Bool) (Done : Going → Going → Type 0) : Type 0 where
  pub items : List Record
  pub accepted : verdict 8192 bytes ≡ Ok items
  pub old : Going
  pub new : Going
  pub goes : seen (λ m. front m.words.now) old ≡ gone protect (loaded items blank)
  pub done : Done old new
