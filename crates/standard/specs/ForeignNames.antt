-- The names of SVG and MathML that have capital letters (13.2.6.1 #creating-and-inserting-nodes,
-- 13.2.6.5 #parsing-main-inforeign): a page's names come in lower case, and are respelled.
use Rattle.std.specs.Prelude.{ℕ, Bool, List, [], ◌∷◌, map, if◌then◌else◌, codes, Option, Some, None}
use Rattle.std.specs.Char.{to_ascii_lowercase}
use Rattle.html_types.specs.Text.{same_text}

-- elements of SVG (13.2.6.5 #parsing-main-inforeign)
unfoldable pub svg_names : List (List ℕ)
svg_names =
    codes "altGlyph" ∷ codes "altGlyphDef" ∷ codes "altGlyphItem" ∷ codes "animateColor" ∷ codes "animateMotion" ∷
    codes "animateTransform" ∷ codes "clipPath" ∷ codes "feBlend" ∷ codes "feColorMatrix" ∷ codes "feComponentTransfer" ∷
    codes "feComposite" ∷ codes "feConvolveMatrix" ∷ codes "feDiffuseLighting" ∷ codes "feDisplacementMap" ∷ codes "feDistantLight" ∷
    codes "feDropShadow" ∷ codes "feFlood" ∷ codes "feFuncA" ∷ codes "feFuncB" ∷ codes "feFuncG" ∷ codes "feFuncR" ∷
    codes "feGaussianBlur" ∷ codes "feImage" ∷ codes "feMerge" ∷ codes "feMergeNode" ∷ codes "feMorphology" ∷ codes "feOffset" ∷
    codes "fePointLight" ∷ codes "feSpecularLighting" ∷ codes "feSpotLight" ∷ codes "feTile" ∷ codes "feTurbulence" ∷
    codes "foreignObject" ∷ codes "glyphRef" ∷ codes "linearGradient" ∷ codes "radialGradient" ∷ codes "textPath" ∷ []

-- attributes of SVG ("adjust SVG attributes", 13.2.6.1 #creating-and-inserting-nodes)
unfoldable pub svg_attributes : List (List ℕ)
svg_attributes =
    codes "attributeName" ∷ codes "attributeType" ∷ codes "baseFrequency" ∷ codes "baseProfile" ∷ codes "calcMode" ∷ codes "clipPathUnits" ∷
    codes "diffuseConstant" ∷ codes "edgeMode" ∷ codes "filterUnits" ∷ codes "glyphRef" ∷ codes "gradientTransform" ∷
    codes "gradientUnits" ∷ codes "kernelMatrix" ∷ codes "kernelUnitLength" ∷ codes "keyPoints" ∷ codes "keySplines" ∷ codes "keyTimes" ∷
    codes "lengthAdjust" ∷ codes "limitingConeAngle" ∷ codes "markerHeight" ∷ codes "markerUnits" ∷ codes "markerWidth" ∷
    codes "maskContentUnits" ∷ codes "maskUnits" ∷ codes "numOctaves" ∷ codes "pathLength" ∷ codes "patternContentUnits" ∷
    codes "patternTransform" ∷ codes "patternUnits" ∷ codes "pointsAtX" ∷ codes "pointsAtY" ∷ codes "pointsAtZ" ∷ codes "preserveAlpha" ∷
    codes "preserveAspectRatio" ∷ codes "primitiveUnits" ∷ codes "refX" ∷ codes "refY" ∷ codes "repeatCount" ∷ codes "repeatDur" ∷
    codes "requiredExtensions" ∷ codes "requiredFeatures" ∷ codes "specularConstant" ∷ codes "specularExponent" ∷ codes "spreadMethod" ∷
    codes "startOffset" ∷ codes "stdDeviation" ∷ codes "stitchTiles" ∷ codes "surfaceScale" ∷ codes "systemLanguage" ∷ codes "tableValues" ∷
    codes "targetX" ∷ codes "targetY" ∷ codes "textLength" ∷ codes "viewBox" ∷ codes "viewTarget" ∷ codes "xChannelSelector" ∷
    codes "yChannelSelector" ∷ codes "zoomAndPan" ∷ []

-- attributes of MathML ("adjust MathML attributes", 13.2.6.1 #creating-and-inserting-nodes)
unfoldable pub math_attributes : List (List ℕ)
math_attributes = codes "definitionURL" ∷ []

-- the text in lower case is that one
abbrev pub is_lower_of : List ℕ → List ℕ → Bool
is_lower_of text lower = same_text (map to_ascii_lowercase text) lower

-- the first of the names that is that one in lower case
unfoldable pub respelled : List (List ℕ) → List ℕ → Option (List ℕ)
respelled [] lower = None
respelled (name ∷ names) lower = if is_lower_of name lower then Some name else respelled names lower
