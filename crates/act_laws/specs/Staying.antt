-- What every change of a tree leaves: the nodes that are there keep their numbers, templates their contents, and elements are elements.
use Rattle.std.specs.Prelude.{◌≡◌, ◌<◌, ◌≤◌, ℕ, length}
use Rattle.standard.specs.Tree.{Nodes, host_of, is_element_at}

-- as far as the first tree goes
pub record Stays (t s : Nodes) : Type 0 where
  pub nodes : length t ≤ length s
  pub hosts : (n : ℕ) → n < length t → host_of s n ≡ host_of t n
  pub elements : (n : ℕ) → n < length t → is_element_at s n ≡ is_element_at t n
