-- The code's own edges and branches, read as the rules' own.
--
-- edge_of: the edge that the code holds; outcomes_of: its branches, once they have passed the frames that were not left behind.
-- branch_by, branch_from: the branch that the code holds before and after that.
use Rattle.std.specs.Prelude.{ℕ, List, ◌∷◌, map}
use Rattle.bounded.specs.Listed.{listed}
use Rattle.words.specs.Edges.{Branch, Edge, leading_to}
use Rattle.words.specs.Words.{constant}
use Rattle.sheet.specs.Layout.{urge}
use Rattle.sheet.specs.Chains.{chain}
use Rattle.rules.specs.Cuts.{outcome_under}
use Rattle.rules.specs.Descents.{urging}
use Rattle.rules.specs.Places.{Place}
use Rattle.paths.specs.Paths.{path_of}
use Rattle.paths.specs.Sheets.{assignment_at, term_at}
use Rattle.edges.specs.Frames.{aim, standing}
use Rattle.edges.specs.Leaves.{branches_from}
use Rattle.edges.specs.declared.edge.Branch.{Branch as OwnBranch}
use Rattle.edges.specs.declared.edge.Edge.{Edge as OwnEdge}
use Rattle.edges.specs.declared.passed.Way.{Way}

abbrev pub outcomes_of : List ℕ → OwnEdge → List (Branch Place)
outcomes_of ws e =
    map (leading_to (outcome_under (term_at ws) (listed e.frames))) (branches_from ws e.ways)

abbrev pub edge_of : List ℕ → OwnEdge → Edge Place
edge_of ws e =
    record {
      action = e.action;
      guard = (path_of e.path).whens;
      deadline = constant (urge ws) ∷ urging (path_of e.path).urgents;
      branches = outcomes_of ws e;
    }

abbrev pub branch_by : List ℕ → Way → Branch Place
branch_by ws w =
    record { weight = w.weight; assignments = map (assignment_at ws) (chain ws w.assignments); outcome = aim w.goal }

abbrev pub branch_from : List ℕ → OwnBranch → Branch Place
branch_from ws b =
    record {
      weight = b.weight;
      assignments = map (assignment_at ws) (chain ws b.assignments);
      outcome = standing b.goal (listed b.frames);
    }
