-- What a command line asks for beside its table words and lists of files, with what is borrowed seen as what it is.
use Rattle.std.specs.Prelude.{ℕ, ◌<◌, ◌-◌, ◌^◌, ⊤, List, Option, option_map}
use Rattle.cs_conflict.specs.declared.wish.Wish.{Wish}
use Rattle.cs_tools.specs.declared.show.Shown.{Shown}
use Rattle.cs_tools.specs.declared.tool.Form.{Form}
use Rattle.cs_tools.specs.declared.tool.Tool.{Tool}
use Rattle.cs_command.specs.declared.asked.Asked.{Asked}
use Rattle.cs_command.specs.declared.asked.Asked.TheVariants as asked

-- a hub, over a file or not. Or a world of so many replicas. Or a replica with this id over a file, which reads all its lines
-- first or answers each as it comes. Or a meeting of the hub over a file with that replica, where the same is wished at each
-- clash. Or a tool over the input, what a file is shown as, or files taken together in a form
pub data Wanted : Type 0 where
  Hub : Option (List ℕ) → Wanted
  World : ℕ → Wanted
  Node : List ℕ → ℕ → Wanted
  Follow : List ℕ → ℕ → Wanted
  Exchange : List ℕ → List ℕ → ℕ → Wish → Wanted
  Run : Tool → Wanted
  ShowFile : Shown → List ℕ → Wanted
  CombineFiles : Form → Wanted

abbrev pub wanted : Asked → Wanted
wanted (asked.Hub file) = Hub (option_map (λ word. word.now) file)
wanted (asked.World count) = World count
wanted (asked.Node file id) = Node file.now id
wanted (asked.Follow file id) = Follow file.now id
wanted (asked.Exchange hub file id wish) = Exchange hub.now file.now id wish
wanted (asked.Tool tool) = Run tool
wanted (asked.ShowFile shown file) = ShowFile shown file.now
wanted (asked.CombineFiles form) = CombineFiles form

-- a replica that is asked for has an id that replicas have
abbrev pub HasId : Asked → Type 0
HasId (asked.Node file id) = id < 2 ^ 32 - 1
HasId (asked.Follow file id) = id < 2 ^ 32 - 1
HasId (asked.Exchange hub file id wish) = id < 2 ^ 32 - 1
HasId (asked.Hub file) = ⊤
HasId (asked.World count) = ⊤
HasId (asked.Tool tool) = ⊤
HasId (asked.ShowFile shown file) = ⊤
HasId (asked.CombineFiles form) = ⊤
