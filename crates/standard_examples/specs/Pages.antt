-- Worked pages: each with what is written for it.
use Rattle.std.specs.Prelude.{◌≡◌, ℕ, List, [], ◌∷◌, Option, Some, option_map, map, codes, encode_utf8_all}
use Prim.Native.String.{String}
use Rattle.html_types.specs.declared.ending.Ending.TheVariants as ending
use Rattle.serial.specs.Scripts.{missing}
use Rattle.serial.specs.Serial.{serial_with}
use Rattle.serial.specs.Output.{output}

-- a page that ends where its text does, with no entities and no script's file
pub record Example : Type 0 where
  page : String
  text : String

-- what is written for its page
abbrev pub written : Example → Option (List ℕ)
written e = option_map output (serial_with 10000 (record { text = codes e.page; ending = ending.End }) (record { entities = []; scripts = λ name. missing }))

-- what is to be written
abbrev pub wanted : Example → Option (List ℕ)
wanted e = Some (encode_utf8_all (codes e.text))

abbrev pub AllWrite : List Example → Type 0
AllWrite es = map written es ≡ map wanted es

abbrev pub blocks : List Example
blocks =
    -- empty page
    record { page = ""; text = "tree \"<html><head></head><body></body></html>\"\n" } ∷
    -- doctype
    record { page = "<!DOCTYPE html><p>Hi"; text = "tree \"<!DOCTYPE html><html><head></head><body><p>Hi</p></body></html>\"\n" } ∷
    -- attributes of a second body
    record { page = "<p>x<body id=\"k\">"; text = "tree \"<html><head></head><body id=\\\"k\\\"><p>x</p></body></html>\"\n" } ∷
    -- attributes of a second html
    record { page = "<html a=1><p>x<html a=2 b=3>"; text = "tree \"<html a=\\\"1\\\" b=\\\"3\\\"><head></head><body><p>x</p></body></html>\"\n" } ∷
    -- list items
    record { page = "<li>1<li>2"; text = "tree \"<html><head></head><body><li>1</li><li>2</li></body></html>\"\n" } ∷
    -- nested lists
    record { page = "<ul><li>1<ul><li>2</ul><li>3</ul>4"; text = "tree \"<html><head></head><body><ul><li>1<ul><li>2</li></ul></li><li>3</li></ul>4</body></html>\"\n" } ∷
    -- definitions
    record { page = "<dl><dt>a<dd>b<dt>c</dl>d"; text = "tree \"<html><head></head><body><dl><dt>a</dt><dd>b</dd><dt>c</dt></dl>d</body></html>\"\n" } ∷
    -- headings
    record { page = "<p>a<h1>b<h2>c</h3>d"; text = "tree \"<html><head></head><body><p>a</p><h1>b</h1><h2>c</h2>d</body></html>\"\n" } ∷
    -- title is read as rcdata
    record { page = "<title><p>a</b></title>b"; text = "tree \"<html><head><title>&lt;p&gt;a&lt;/b&gt;</title></head><body>b</body></html>\"\n" } ∷
    -- style is read as rawtext
    record { page = "<style>a<b</sty></STYLE >c"; text = "tree \"<html><head><style>a<b</sty></style></head><body>c</body></html>\"\n" } ∷
    -- textarea
    record { page = "<textarea>\n\na</textarea\n>b"; text = "tree \"<html><head></head><body><textarea>\\na</textarea>b</body></html>\"\n" } ∷
    -- listing
    record { page = "<listing>\na</listing>b"; text = "tree \"<html><head></head><body><listing>a</listing>b</body></html>\"\n" } ∷
    -- plaintext
    record { page = "<p>a<plaintext>b</plaintext>"; text = "tree \"<html><head></head><body><p>a</p><plaintext>b</plaintext></plaintext></body></html>\"\n" } ∷
    -- xmp
    record { page = "<p>a<xmp><b></xmp>c"; text = "tree \"<html><head></head><body><p>a</p><xmp><b></xmp>c</body></html>\"\n" } ∷
    -- formatting left open
    record { page = "<p>a<b>c"; text = "tree \"<html><head></head><body><p>a<b>c</b></p></body></html>\"\n" } ∷
    -- end of no p
    record { page = "a</p>b"; text = "tree \"<html><head></head><body>a<p></p>b</body></html>\"\n" } ∷
    -- end of no div
    record { page = "<p>a</div>b</section>c"; text = "tree \"<html><head></head><body><p>abc</p></body></html>\"\n" } ∷
    -- head twice
    record { page = "<head><title>a</title></head><head>b"; text = "tree \"<html><head><title>a</title></head><body>b</body></html>\"\n" } ∷
    -- title after head
    record { page = "<head></head><title>a</title>b"; text = "tree \"<html><head><title>a</title></head><body>b</body></html>\"\n" } ∷
    -- spaces around head
    record { page = "\n <head> </head>\n <body> a"; text = "tree \"<html><head> </head>\\n <body> a</body></html>\"\n" } ∷
    -- text after body
    record { page = "<body>a</body> b</html> c"; text = "tree \"<html><head></head><body>a b c</body></html>\"\n" } ∷
    -- comment
    record { page = "<p>a<!--b-->"; text = "tree \"<html><head></head><body><p>a<!--b--></p></body></html>\"\n" } ∷
    -- shortest comment
    record { page = "<p><!--->x"; text = "tree \"<html><head></head><body><p><!---->x</p></body></html>\"\n" } ∷
    -- comments everywhere
    record { page = "<!--a--><!DOCTYPE html><!--b--><html><!--c--><head><!--d--></head><!--e--><body>f</body><!--g--></html><!--h-->"; text = "tree \"<!--a--><!DOCTYPE html><!--b--><html><!--c--><head><!--d--></head><!--e--><body>f</body><!--g--></html><!--h-->\"\n" } ∷
    -- comment cut by the end
    record { page = "a<!--b-"; text = "tree \"<html><head></head><body>a<!--b--></body></html>\"\n" } ∷
    -- bogus comments
    record { page = "a<?b></1><!c>"; text = "tree \"<html><head></head><body>a<!--?b--><!--1--><!--c--></body></html>\"\n" } ∷
    -- doctype in body
    record { page = "<p>a<!DOCTYPE html>b"; text = "tree \"<html><head></head><body><p>ab</p></body></html>\"\n" } ∷
    -- doctype with no name
    record { page = "<!DOCTYPE>a"; text = "tree \"<!DOCTYPE ><html><head></head><body>a</body></html>\"\n" } ∷
    -- no names listed
    record { page = "<p>a&amp;c"; text = "tree \"<html><head></head><body><p>a&amp;amp;c</p></body></html>\"\n" } ∷
    -- numeric references
    record { page = "<p a=1 A='2' b>x&#x41;&#0;"; text = "tree \"<html><head></head><body><p a=\\\"1\\\" b=\\\"\\\">xA�</p></body></html>\"\n" } ∷
    -- reference to a return
    record { page = "a&#13;b"; text = "tree \"<html><head></head><body>a\\rb</body></html>\"\n" } ∷
    -- unknown element
    record { page = "<foo Bar=\"a'b\" q='\"' z=y k>a</FOO>b"; text = "tree \"<html><head></head><body><foo bar=\\\"a'b\\\" q=\\\"&quot;\\\" z=\\\"y\\\" k=\\\"\\\">a</foo>b</body></html>\"\n" } ∷
    -- attribute twice
    record { page = "<p a=1 A=2 b>c"; text = "tree \"<html><head></head><body><p a=\\\"1\\\" b=\\\"\\\">c</p></body></html>\"\n" } ∷
    -- self closing
    record { page = "<p/>a<br/>b<img src=x/>c"; text = "tree \"<html><head></head><body><p>a<br>b<img src=\\\"x/\\\">c</p></body></html>\"\n" } ∷
    -- void elements
    record { page = "<meta a><p>a<hr>b<wbr>c"; text = "tree \"<html><head><meta a=\\\"\\\"></head><body><p>a</p><hr>b<wbr>c</body></html>\"\n" } ∷
    -- lone less than
    record { page = "a < b <"; text = "tree \"<html><head></head><body>a &lt; b &lt;</body></html>\"\n" } ∷
    -- tag cut by the end
    record { page = "a<p"; text = "tree \"<html><head></head><body>a</body></html>\"\n" } ∷
    -- attribute cut by the end
    record { page = "a<p b=\"c"; text = "tree \"<html><head></head><body>a</body></html>\"\n" } ∷
    -- empty end tag
    record { page = "a</>b</"; text = "tree \"<html><head></head><body>ab&lt;/</body></html>\"\n" } ∷
    -- special stops an end
    record { page = "<x><div>a</x>b</div>c"; text = "tree \"<html><head></head><body><x><div>ab</div>c</x></body></html>\"\n" } ∷
    -- end of an unknown
    record { page = "<x><y>a</x>b"; text = "tree \"<html><head></head><body><x><y>a</y></x>b</body></html>\"\n" } ∷
    -- buttons
    record { page = "<button>a<button>b</button>c"; text = "tree \"<html><head></head><body><button>a</button><button>b</button>c</body></html>\"\n" } ∷
    -- options
    record { page = "<option>a<option>b<optgroup>c"; text = "tree \"<html><head></head><body><option>a</option><option>b</option><optgroup>c</optgroup></body></html>\"\n" } ∷
    -- ruby
    record { page = "<ruby>a<rb>b<rt>c<rp>d</ruby>e"; text = "tree \"<html><head></head><body><ruby>a<rb>b</rb><rt>c</rt><rp>d</rp></ruby>e</body></html>\"\n" } ∷
    -- left out in body
    record { page = "<p>a<td>b<tr>c<head>d<caption>e"; text = "tree \"<html><head></head><body><p>abcde</p></body></html>\"\n" } ∷
    -- a character beyond ascii
    record { page = "<p>aé>b"; text = "tree \"<html><head></head><body><p>aé&gt;b</p></body></html>\"\n" } ∷
    -- returns
    record { page = "a\rb\r\nc\n\rd"; text = "tree \"<html><head></head><body>a\\nb\\nc\\n\\nd</body></html>\"\n" } ∷
    -- br end
    record { page = "a</br>b"; text = "tree \"<html><head></head><body>a<br>b</body></html>\"\n" } ∷
    -- object end
    record { page = "<object>a<p>b</object>c</object>d"; text = "tree \"<html><head></head><body><object>a<p>b</p></object>cd</body></html>\"\n" } ∷
    -- noscript
    record { page = "<noscript><p>a</noscript><body><noscript><p>b</noscript>c"; text = "tree \"<html><head><noscript><p>a</noscript></head><body><noscript><p>b</noscript>c</body></html>\"\n" } ∷
    []

abbrev pub scripts : List Example
scripts =
    -- a write in a p
    record { page = "<p>a<script>document.write(\"b\");</script>c"; text = "tree \"<html><head></head><body><p>a<script>document.write(\\\"b\\\");</script>bc</p></body></html>\"\n" } ∷
    -- a write in head
    record { page = "<script>document.write(\"<p>x\");</script>y"; text = "tree \"<html><head><script>document.write(\\\"<p>x\\\");</script></head><body><p>xy</p></body></html>\"\n" } ∷
    -- tag begun by a write
    record { page = "<script>document.write(\"<i-i\");</script> class=\"k\">z"; text = "tree \"<html><head><script>document.write(\\\"<i-i\\\");</script></head><body><i-i class=\\\"k\\\">z</i-i></body></html>\"\n" } ∷
    -- line feed behind a written return
    record { page = "<body>a<script>document.write(\"\\r\");</script>\nb"; text = "tree \"<html><head></head><body>a<script>document.write(\\\"\\\\r\\\");</script>\\nb</body></html>\"\n" } ∷
    -- unknown element in a write
    record { page = "<p>a<script>document.write(\"<x>x<\\/x>\");</script>b"; text = "tree \"<html><head></head><body><p>a<script>document.write(\\\"<x>x<\\\\/x>\\\");</script><x>x</x>b</p></body></html>\"\n" } ∷
    -- unknown element left open
    record { page = "<p>a<script>document.write(\"<x>x\");</script>b"; text = "tree \"<html><head></head><body><p>a<script>document.write(\\\"<x>x\\\");</script><x>xb</x></p></body></html>\"\n" } ∷
    -- written div under x
    record { page = "<script>document.write(\"<x>\");</script><div>a</div>b"; text = "tree \"<html><head><script>document.write(\\\"<x>\\\");</script></head><body><x><div>a</div>b</x></body></html>\"\n" } ∷
    -- written pre
    record { page = "<script>document.write(\"<pre>\");</script>\nx"; text = "tree \"<html><head><script>document.write(\\\"<pre>\\\");</script></head><body><pre>x</pre></body></html>\"\n" } ∷
    -- syntax line
    record { page = "<script>foo();</script><p>a"; text = "syntax 1\ntree \"<html><head><script>foo();</script></head><body><p>a</p></body></html>\"\n" } ∷
    -- syntax lines
    record { page = "<script>foo();</script><script> </script><script>x</script>b"; text = "syntax 1\nsyntax 3\ntree \"<html><head><script>foo();</script><script> </script><script>x</script></head><body>b</body></html>\"\n" } ∷
    -- script in a script
    record { page = "<script><!--<script></script>--></script>a"; text = "syntax 1\ntree \"<html><head><script><!--<script></script>--></script></head><body>a</body></html>\"\n" } ∷
    -- script cut by the end
    record { page = "<script>foo();"; text = "tree \"<html><head><script>foo();</script></head><body></body></html>\"\n" } ∷
    -- script that does not run
    record { page = "<script type=text/plain>foo();</script>a"; text = "tree \"<html><head><script type=\\\"text/plain\\\">foo();</script></head><body>a</body></html>\"\n" } ∷
    -- script of its type
    record { page = "<script type=\" Text/JavaScript \">foo();</script>"; text = "syntax 1\ntree \"<html><head><script type=\\\" Text/JavaScript \\\">foo();</script></head><body></body></html>\"\n" } ∷
    -- empty script
    record { page = "<script></script>a"; text = "tree \"<html><head><script></script></head><body>a</body></html>\"\n" } ∷
    -- two writes
    record { page = "<script>document.write(\"a\");document.write(\"<p>b\");</script>c"; text = "tree \"<html><head><script>document.write(\\\"a\\\");document.write(\\\"<p>b\\\");</script></head><body>a<p>bc</p></body></html>\"\n" } ∷
    -- written textarea
    record { page = "<body><script>document.write(\"<textarea>\");</script><script>x</script>"; text = "tree \"<html><head></head><body><script>document.write(\\\"<textarea>\\\");</script><textarea>&lt;script&gt;x&lt;/script&gt;</textarea></body></html>\"\n" } ∷
    -- script after head
    record { page = "<head></head><script>x</script>b"; text = "syntax 1\ntree \"<html><head><script>x</script></head><body>b</body></html>\"\n" } ∷
    -- a written b
    record { page = "<p>a<script>document.write(\"<b>x</b>\");</script>b"; text = "tree \"<html><head></head><body><p>a<script>document.write(\\\"<b>x</b>\\\");</script><b>x</b>b</p></body></html>\"\n" } ∷
    -- a written b left open
    record { page = "<p>a<script>document.write(\"<b>x\");</script>b"; text = "tree \"<html><head></head><body><p>a<script>document.write(\\\"<b>x\\\");</script><b>xb</b></p></body></html>\"\n" } ∷
    -- a written text before a frameset
    record { page = "<div><script>document.write(\"x\");</script><frameset>"; text = "tree \"<html><head></head><body><div><script>document.write(\\\"x\\\");</script>x</div></body></html>\"\n" } ∷
    -- text behind a removed table
    record { page = "<div><table id=\"t\"><script>document.getElementById(\"t\").remove();</script>x</table></div>"; text = "tree \"<html><head></head><body><div>x</div></body></html>\"\n" } ∷
    -- a removed script does not run
    record { page = "<div id=\"d\"><script>document.getElementById(\"d\").remove();</script><script>console.log(document.documentElement.outerHTML);</script></div>y"; text = "tree \"<html><head></head><body>y</body></html>\"\n" } ∷
    -- a written script writes
    record { page = "<body><script>document.write(\"<script>document.write(\\\"A\\\");<\\/script>B\");document.write(\"C\");</script>D"; text = "tree \"<html><head></head><body><script>document.write(\\\"<script>document.write(\\\\\\\"A\\\\\\\");<\\\\/script>B\\\");document.write(\\\"C\\\");</script><script>document.write(\\\"A\\\");</script>ABCD</body></html>\"\n" } ∷
    -- lines of scripts that end early
    record { page = "<script>foo();</script><script>document.getElementById(\"no\").remove();console.log(document.documentElement.outerHTML);</script>"; text = "syntax 1\nthrow 2\ntree \"<html><head><script>foo();</script><script>document.getElementById(\\\"no\\\").remove();console.log(document.documentElement.outerHTML);</script></head><body></body></html>\"\n" } ∷
    -- a script removes itself
    record { page = "<body>a<script id=\"s\">document.getElementById(\"s\").remove();</script>b"; text = "tree \"<html><head></head><body>ab</body></html>\"\n" } ∷
    -- a script in a template
    record { page = "<template>x<script>document.write(\"n\");</script></template>y"; text = "tree \"<html><head><template>x<script>document.write(\\\"n\\\");</script></template></head><body>y</body></html>\"\n" } ∷
    -- a read script is text
    record { page = "<body><script>document.write(\"<textarea>\");</script><script>console.log(document.documentElement.outerHTML);</script>"; text = "tree \"<html><head></head><body><script>document.write(\\\"<textarea>\\\");</script><textarea>&lt;script&gt;console.log(document.documentElement.outerHTML);&lt;/script&gt;</textarea></body></html>\"\n" } ∷
    -- a script keeps its number
    record { page = "<p id=p>a<script>document.write(\"<script>foo();<\\/script>\");console.log(document.getElementById(\"p\").outerHTML);</script>b"; text = "syntax 2\nlog 1 \"<p id=\\\"p\\\">a<script>document.write(\\\"<script>foo();<\\\\/script>\\\");console.log(document.getElementById(\\\"p\\\").outerHTML);</script><script>foo();</script></p>\"\ntree \"<html><head></head><body><p id=\\\"p\\\">a<script>document.write(\\\"<script>foo();<\\\\/script>\\\");console.log(document.getElementById(\\\"p\\\").outerHTML);</script><script>foo();</script>b</p></body></html>\"\n" } ∷
    -- a throw ends one script
    record { page = "<body><script>document.write(\"<script>document.getElementById(\\\"no\\\").remove();document.write(\\\"b\\\");<\\/script>c\");document.write(\"d\");</script>e"; text = "throw 2\ntree \"<html><head></head><body><script>document.write(\\\"<script>document.getElementById(\\\\\\\"no\\\\\\\").remove();document.write(\\\\\\\"b\\\\\\\");<\\\\/script>c\\\");document.write(\\\"d\\\");</script><script>document.getElementById(\\\"no\\\").remove();document.write(\\\"b\\\");</script>cde</body></html>\"\n" } ∷
    -- no element to read
    record { page = "<html id=h><script>document.getElementById(\"h\").remove();console.log(document.documentElement.outerHTML);document.write(\"x\");</script>y"; text = "throw 1\ntree \"\"\n" } ∷
    -- a tag in two writes
    record { page = "<script>document.write(\"<i\");document.write(\"-i>a\");</script>b"; text = "tree \"<html><head><script>document.write(\\\"<i\\\");document.write(\\\"-i>a\\\");</script></head><body><i-i>ab</i-i></body></html>\"\n" } ∷
    -- an id in a template
    record { page = "<body><template><p id=a></template><q id=a><script>console.log(document.getElementById(\"a\").outerHTML);</script>"; text = "log 1 \"<q id=\\\"a\\\"><script>console.log(document.getElementById(\\\"a\\\").outerHTML);</script></q>\"\ntree \"<html><head></head><body><template><p id=\\\"a\\\"></p></template><q id=\\\"a\\\"><script>console.log(document.getElementById(\\\"a\\\").outerHTML);</script></q></body></html>\"\n" } ∷
    -- an empty id
    record { page = "<body id=\"\"><script>console.log(document.getElementById(\"\").outerHTML);</script>"; text = "throw 1\ntree \"<html><head></head><body id=\\\"\\\"><script>console.log(document.getElementById(\\\"\\\").outerHTML);</script></body></html>\"\n" } ∷
    -- three scripts deep
    record { page = "<body><script>document.write(\"<script>document.write(\\\"<script>document.write(\\\\\\\"a\\\\\\\");<\\\\/script>b\\\");<\\/script>c\");</script>d"; text = "tree \"<html><head></head><body><script>document.write(\\\"<script>document.write(\\\\\\\"<script>document.write(\\\\\\\\\\\\\\\"a\\\\\\\\\\\\\\\");<\\\\\\\\/script>b\\\\\\\");<\\\\/script>c\\\");</script><script>document.write(\\\"<script>document.write(\\\\\\\"a\\\\\\\");<\\\\/script>b\\\");</script><script>document.write(\\\"a\\\");</script>abcd</body></html>\"\n" } ∷
    -- a written i goes on in the page
    record { page = "<script>document.write(\"<i\");</script> class=\"k\">z"; text = "tree \"<html><head><script>document.write(\\\"<i\\\");</script></head><body><i class=\\\"k\\\">z</i></body></html>\"\n" } ∷
    []

-- what document.writeln() writes, and moves by a script
abbrev pub moves : List Example
moves =
    -- the foster place is just before the table where a script moved it
    record { page = "<div id=\"d\"></div><table id=\"t\"><script>document.getElementById(\"d\").append(document.getElementById(\"t\"));</script>x"; text = "tree \"<html><head></head><body><div id=\\\"d\\\">x<table id=\\\"t\\\"><script>document.getElementById(\\\"d\\\").append(document.getElementById(\\\"t\\\"));</script></table></div></body></html>\"\n" } ∷
    -- an element isn't moved under itself
    record { page = "<div id=\"a\"><p id=\"b\"><script>document.getElementById(\"b\").append(document.getElementById(\"a\"));</script>"; text = "throw 1\ntree \"<html><head></head><body><div id=\\\"a\\\"><p id=\\\"b\\\"><script>document.getElementById(\\\"b\\\").append(document.getElementById(\\\"a\\\"));</script></p></div></body></html>\"\n" } ∷
    -- an adoption whose block stands above its ancestor by a move
    record { page = "<div id=\"z\"></div><div id=\"c\"><b id=\"x\"><p id=\"y\"><script>document.getElementById(\"z\").append(document.getElementById(\"y\"));document.getElementById(\"y\").append(document.getElementById(\"c\"));</script>q</b>"; text = "tree \"<html><head></head><body><div id=\\\"z\\\"><p id=\\\"y\\\"><b id=\\\"x\\\"><script>document.getElementById(\\\"z\\\").append(document.getElementById(\\\"y\\\"));document.getElementById(\\\"y\\\").append(document.getElementById(\\\"c\\\"));</script><div id=\\\"c\\\"><b id=\\\"x\\\"></b></div>q</b></p></div></body></html>\"\n" } ∷
    -- a line
    record { page = "<body><script>document.writeln(\"a\");</script>b"; text = "tree \"<html><head></head><body><script>document.writeln(\\\"a\\\");</script>a\\nb</body></html>\"\n" } ∷
    -- an empty line
    record { page = "<body>a<script>document.writeln(\"\");</script>b"; text = "tree \"<html><head></head><body>a<script>document.writeln(\\\"\\\");</script>\\nb</body></html>\"\n" } ∷
    -- a line feed behind pre is left out
    record { page = "<script>document.writeln(\"<pre>\");</script>x"; text = "tree \"<html><head><script>document.writeln(\\\"<pre>\\\");</script></head><body><pre>x</pre></body></html>\"\n" } ∷
    -- a line that ends with a return
    record { page = "<body><script>document.writeln(\"a\\r\");</script>b"; text = "tree \"<html><head></head><body><script>document.writeln(\\\"a\\\\r\\\");</script>a\\nb</body></html>\"\n" } ∷
    -- no element to move, none to move it into, and one into itself
    record { page = "<p id=\"a\">x<script>document.getElementById(\"a\").append(document.getElementById(\"no\"));document.write(\"n\");</script><script>document.getElementById(\"no\").append(document.getElementById(\"a\"));</script><script>document.getElementById(\"a\").append(document.getElementById(\"a\"));</script>y"; text = "throw 1\nthrow 2\nthrow 3\ntree \"<html><head></head><body><p id=\\\"a\\\">x<script>document.getElementById(\\\"a\\\").append(document.getElementById(\\\"no\\\"));document.write(\\\"n\\\");</script><script>document.getElementById(\\\"no\\\").append(document.getElementById(\\\"a\\\"));</script><script>document.getElementById(\\\"a\\\").append(document.getElementById(\\\"a\\\"));</script>y</p></body></html>\"\n" } ∷
    -- the last among the children that are there
    record { page = "<body><i id=\"k\">a</i><div id=\"d\"><b>c</b>d</div><script>document.getElementById(\"d\").append(document.getElementById(\"k\"));</script>e"; text = "tree \"<html><head></head><body><div id=\\\"d\\\"><b>c</b>d<i id=\\\"k\\\">a</i></div><script>document.getElementById(\\\"d\\\").append(document.getElementById(\\\"k\\\"));</script>e</body></html>\"\n" } ∷
    -- last among the children where it stands
    record { page = "<div id=\"d\"><i id=\"k\">a</i>b</div><script>document.getElementById(\"d\").append(document.getElementById(\"k\"));</script>"; text = "tree \"<html><head></head><body><div id=\\\"d\\\">b<i id=\\\"k\\\">a</i></div><script>document.getElementById(\\\"d\\\").append(document.getElementById(\\\"k\\\"));</script></body></html>\"\n" } ∷
    -- a script moves itself and goes on
    record { page = "<body><div id=\"d\"></div><script id=\"s\">document.getElementById(\"d\").append(document.getElementById(\"s\"));document.write(\"a\");</script>b"; text = "tree \"<html><head></head><body><div id=\\\"d\\\"><script id=\\\"s\\\">document.getElementById(\\\"d\\\").append(document.getElementById(\\\"s\\\"));document.write(\\\"a\\\");</script></div>ab</body></html>\"\n" } ∷
    -- into a template's own children, which its text doesn't show
    record { page = "<body><template id=\"k\">c</template><p id=\"p\">a</p><script>document.getElementById(\"k\").append(document.getElementById(\"p\"));console.log(document.getElementById(\"p\").outerHTML);console.log(document.getElementById(\"k\").outerHTML);</script>"; text = "log 1 \"<p id=\\\"p\\\">a</p>\"\nlog 1 \"<template id=\\\"k\\\">c</template>\"\ntree \"<html><head></head><body><template id=\\\"k\\\">c</template><script>document.getElementById(\\\"k\\\").append(document.getElementById(\\\"p\\\"));console.log(document.getElementById(\\\"p\\\").outerHTML);console.log(document.getElementById(\\\"k\\\").outerHTML);</script></body></html>\"\n" } ∷
    -- the foster place where a script moved the table into a template
    record { page = "<body><template id=\"k\">c</template><table id=\"t\"><script>document.getElementById(\"k\").append(document.getElementById(\"t\"));</script>x"; text = "tree \"<html><head></head><body><template id=\\\"k\\\">cx</template></body></html>\"\n" } ∷
    -- a script under a template's own children runs
    record { page = "<body><template id=\"k\"></template><p id=\"p\"><script>document.getElementById(\"k\").append(document.getElementById(\"p\"));</script><script>document.write(\"a\");console.log(document.getElementById(\"p\").outerHTML);</script>b"; text = "log 2 \"<p id=\\\"p\\\"><script>document.getElementById(\\\"k\\\").append(document.getElementById(\\\"p\\\"));</script><script>document.write(\\\"a\\\");console.log(document.getElementById(\\\"p\\\").outerHTML);</script>a</p>\"\ntree \"<html><head></head><body><template id=\\\"k\\\"></template></body></html>\"\n" } ∷
    -- a script that was moved runs once
    record { page = "<body><div id=\"d\"></div><script id=\"s\">document.write(\"a\");</script><script>document.getElementById(\"d\").append(document.getElementById(\"s\"));</script>b"; text = "tree \"<html><head></head><body><div id=\\\"d\\\"><script id=\\\"s\\\">document.write(\\\"a\\\");</script></div>a<script>document.getElementById(\\\"d\\\").append(document.getElementById(\\\"s\\\"));</script>b</body></html>\"\n" } ∷
    -- the Document's element stays
    record { page = "<html id=\"h\"><body><div id=\"d\"><script>document.getElementById(\"d\").append(document.getElementById(\"h\"));</script>"; text = "throw 1\ntree \"<html id=\\\"h\\\"><head></head><body><div id=\\\"d\\\"><script>document.getElementById(\\\"d\\\").append(document.getElementById(\\\"h\\\"));</script></div></body></html>\"\n" } ∷
    []

abbrev pub formatting : List Example
formatting =
    -- misnested formatting
    record { page = "<p>1<b>2<i>3</b>4</i>5</p>"; text = "tree \"<html><head></head><body><p>1<b>2<i>3</i></b><i>4</i>5</p></body></html>\"\n" } ∷
    -- formatting goes on behind a p
    record { page = "<p>1<b>2<i>3</p>4"; text = "tree \"<html><head></head><body><p>1<b>2<i>3</i></b></p><b><i>4</i></b></body></html>\"\n" } ∷
    -- end of no formatting
    record { page = "<b>1</i>2"; text = "tree \"<html><head></head><body><b>12</b></body></html>\"\n" } ∷
    -- a in a
    record { page = "<a>1<a>2"; text = "tree \"<html><head></head><body><a>1</a><a>2</a></body></html>\"\n" } ∷
    -- nobr in nobr
    record { page = "<nobr>1<nobr>2"; text = "tree \"<html><head></head><body><nobr>1</nobr><nobr>2</nobr></body></html>\"\n" } ∷
    -- four alike
    record { page = "<p><b><b><b><b>1</p>2"; text = "tree \"<html><head></head><body><p><b><b><b><b>1</b></b></b></b></p><b><b><b>2</b></b></b></body></html>\"\n" } ∷
    -- four alike are closed
    record { page = "<b><b><b><b>1</b>2</b>3</b>4</b>5"; text = "tree \"<html><head></head><body><b><b><b><b>1</b>2</b>3</b>4</b>5</body></html>\"\n" } ∷
    -- alike whatever the order
    record { page = "<p><b k=1 l=2><b l=2 k=1><b k=1 l=2><b k=1 l=2>1</p>2"; text = "tree \"<html><head></head><body><p><b k=\\\"1\\\" l=\\\"2\\\"><b l=\\\"2\\\" k=\\\"1\\\"><b k=\\\"1\\\" l=\\\"2\\\"><b k=\\\"1\\\" l=\\\"2\\\">1</b></b></b></b></p><b l=\\\"2\\\" k=\\\"1\\\"><b k=\\\"1\\\" l=\\\"2\\\"><b k=\\\"1\\\" l=\\\"2\\\">2</b></b></b></body></html>\"\n" } ∷
    -- unclosed formatting
    record { page = "<p><b class=x><b class=x><b><b class=x><b class=x><b>X\n<p>X\n<p><b><b class=x><b>X\n<p></b></b></b></b></b></b>X"; text = "tree \"<html><head></head><body><p><b class=\\\"x\\\"><b class=\\\"x\\\"><b><b class=\\\"x\\\"><b class=\\\"x\\\"><b>X\\n</b></b></b></b></b></b></p><p><b class=\\\"x\\\"><b><b class=\\\"x\\\"><b class=\\\"x\\\"><b>X\\n</b></b></b></b></b></p><p><b class=\\\"x\\\"><b><b class=\\\"x\\\"><b class=\\\"x\\\"><b><b><b class=\\\"x\\\"><b>X\\n</b></b></b></b></b></b></b></b></p><p>X</p></body></html>\"\n" } ∷
    -- formatting stays behind a marker
    record { page = "<b>1<object>2</b>3</object>4</b>5"; text = "tree \"<html><head></head><body><b>1<object>23</object>4</b>5</body></html>\"\n" } ∷
    -- block in formatting
    record { page = "<b>1<p>2</b>3</p>"; text = "tree \"<html><head></head><body><b>1</b><p><b>2</b>3</p></body></html>\"\n" } ∷
    -- blocks in formatting
    record { page = "<a>1<div>2<div>3</a>4</div>5</div>"; text = "tree \"<html><head></head><body><a>1</a><div><a>2</a><div><a>3</a>4</div>5</div></body></html>\"\n" } ∷
    -- formatting between
    record { page = "<b>1<i>2<p>3</b>4"; text = "tree \"<html><head></head><body><b>1<i>2</i></b><i><p><b>3</b>4</p></i></body></html>\"\n" } ∷
    -- fourth between is dropped
    record { page = "<a><b><big><em><strong><div>X</a>"; text = "tree \"<html><head></head><body><a><b><big><em><strong></strong></em></big></b></a><big><em><strong><div><a>X</a></div></strong></em></big></body></html>\"\n" } ∷
    -- eight turns
    record { page = "<a><div><div><div><div><div><div><div><div><div>A</a>"; text = "tree \"<html><head></head><body><a></a><div><a></a><div><a></a><div><a></a><div><a></a><div><a></a><div><a></a><div><a></a><div><a><div>A</div></a></div></div></div></div></div></div></div></div></body></html>\"\n" } ∷
    -- a in a block in a
    record { page = "<a>1<p>2<a>3"; text = "tree \"<html><head></head><body><a>1</a><p><a>2</a><a>3</a></p></body></html>\"\n" } ∷
    -- nobr in a block in nobr
    record { page = "<nobr>1<p>2<nobr>3"; text = "tree \"<html><head></head><body><nobr>1</nobr><p><nobr>2</nobr><nobr>3</nobr></p></body></html>\"\n" } ∷
    -- form in form
    record { page = "<form>1<form>2</form>3"; text = "tree \"<html><head></head><body><form>12</form>3</body></html>\"\n" } ∷
    -- form closed under a div
    record { page = "<form><div></form>1"; text = "tree \"<html><head></head><body><form><div>1</div></form></body></html>\"\n" } ∷
    -- end of no form
    record { page = "<p>1</form>2"; text = "tree \"<html><head></head><body><p>12</p></body></html>\"\n" } ∷
    -- image
    record { page = "<p>1<image src=x>2"; text = "tree \"<html><head></head><body><p>1<img src=\\\"x\\\">2</p></body></html>\"\n" } ∷
    -- hidden input
    record { page = "<p>1<input type=Hidden>2"; text = "tree \"<html><head></head><body><p>1<input type=\\\"Hidden\\\">2</p></body></html>\"\n" } ∷
    []

abbrev pub tables : List Example
tables =
    -- cells
    record { page = "<table><tr><td>a</table>b"; text = "tree \"<html><head></head><body><table><tbody><tr><td>a</td></tr></tbody></table>b</body></html>\"\n" } ∷
    -- text in a table
    record { page = "<div><table id=\"t\">x</table></div>"; text = "tree \"<html><head></head><body><div>x<table id=\\\"t\\\"></table></div></body></html>\"\n" } ∷
    -- quirky table
    record { page = "<p>a<table>b"; text = "tree \"<html><head></head><body><p>ab<table></table></p></body></html>\"\n" } ∷
    -- table closes a p
    record { page = "<!DOCTYPE html><p>a<table>b"; text = "tree \"<!DOCTYPE html><html><head></head><body><p>a</p>b<table></table></body></html>\"\n" } ∷
    -- table in a table
    record { page = "<table>1<table>2"; text = "tree \"<html><head></head><body>1<table></table>2<table></table></body></html>\"\n" } ∷
    -- table in a cell
    record { page = "<table><td><table><td>a</table>b</table>c"; text = "tree \"<html><head></head><body><table><tbody><tr><td><table><tbody><tr><td>a</td></tr></tbody></table>b</td></tr></tbody></table>c</body></html>\"\n" } ∷
    -- sections
    record { page = "<table><thead><th>a<tfoot><td>b<tbody><tr><td>c"; text = "tree \"<html><head></head><body><table><thead><tr><th>a</th></tr></thead><tfoot><tr><td>b</td></tr></tfoot><tbody><tr><td>c</td></tr></tbody></table></body></html>\"\n" } ∷
    -- end tags left out in a table
    record { page = "</table><table></body></caption></col></colgroup></html></tbody></td></tfoot></th></thead></tr></table></table>a"; text = "tree \"<html><head></head><body><table></table>a</body></html>\"\n" } ∷
    -- style in a table
    record { page = "<table><style>a</style><script>x</script>b"; text = "syntax 1\ntree \"<html><head></head><body>b<table><style>a</style><script>x</script></table></body></html>\"\n" } ∷
    -- inputs in a table
    record { page = "<table><input><input type=HIDDEN><input type=button>"; text = "tree \"<html><head></head><body><input><input type=\\\"button\\\"><table><input type=\\\"HIDDEN\\\"></table></body></html>\"\n" } ∷
    -- form in a table
    record { page = "<table><form><form><tr><td>a</form><form>b"; text = "tree \"<html><head></head><body><table><form></form><tbody><tr><td>a<form>b</form></td></tr></tbody></table></body></html>\"\n" } ∷
    -- context of a table
    record { page = "<table><p>1<caption>2</caption><p>3<colgroup><p>4<col><p>5<tbody>"; text = "tree \"<html><head></head><body><p>1</p><p>3</p><p>4</p><p>5</p><table><caption>2</caption><colgroup></colgroup><colgroup><col></colgroup><tbody></tbody></table></body></html>\"\n" } ∷
    -- no table in scope
    record { page = "<template><caption></caption></table><table>a</template>b"; text = "tree \"<html><head><template><caption></caption>a</template></head><body>b</body></html>\"\n" } ∷
    -- form of a template in a table
    record { page = "<template><table><form>a"; text = "tree \"<html><head><template>a<table></table></template></head><body></body></html>\"\n" } ∷
    -- removed table
    record { page = "<div><table id=\"t\"><script>document.getElementById(\"t\").remove();</script>x</table></div>"; text = "tree \"<html><head></head><body><div>x</div></body></html>\"\n" } ∷
    []

abbrev pub foster_parenting : List Example
foster_parenting =
    -- white space in a table
    record { page = "<table> \n<tr> <td>a</td>\t</tr> </table>"; text = "tree \"<html><head></head><body><table> \\n<tbody><tr> <td>a</td>\\t</tr> </tbody></table></body></html>\"\n" } ∷
    -- text with white space in a table
    record { page = "<table> <tr> x <td>a"; text = "tree \"<html><head></head><body> x <table> <tbody><tr><td>a</td></tr></tbody></table></body></html>\"\n" } ∷
    -- text reopens formatting once
    record { page = "<p><b></p><table>xy</table>z"; text = "tree \"<html><head></head><body><p><b></b></p><b>xy</b><table></table><b>z</b></body></html>\"\n" } ∷
    -- white space reopens nothing
    record { page = "<p><b></p><table> <tr>"; text = "tree \"<html><head></head><body><p><b></b></p><table> <tbody><tr></tr></tbody></table></body></html>\"\n" } ∷
    -- no foster parenting behind text
    record { page = "<table>x<tr><td>y"; text = "tree \"<html><head></head><body>x<table><tbody><tr><td>y</td></tr></tbody></table></body></html>\"\n" } ∷
    -- no foster parenting behind a tag
    record { page = "<table><p>x</p><tr><td>y"; text = "tree \"<html><head></head><body><p>x</p><table><tbody><tr><td>y</td></tr></tbody></table></body></html>\"\n" } ∷
    -- formatting in a table
    record { page = "<table><b>a<tr><td>c</table>d"; text = "tree \"<html><head></head><body><b>a</b><table><tbody><tr><td>c</td></tr></tbody></table><b>d</b></body></html>\"\n" } ∷
    -- adoption in a table
    record { page = "<table><a>1<p>2</a>3"; text = "tree \"<html><head></head><body><a>1</a><p><a>2</a>3</p><table></table></body></html>\"\n" } ∷
    -- comment in a table
    record { page = "<table>a<!--b--> <tr><!--c-->"; text = "tree \"<html><head></head><body>a<table><!--b--> <tbody><tr><!--c--></tr></tbody></table></body></html>\"\n" } ∷
    -- doctype in a table
    record { page = "<table>a<!DOCTYPE html> <tr>"; text = "tree \"<html><head></head><body>a<table> <tbody><tr></tr></tbody></table></body></html>\"\n" } ∷
    -- foster place in a template
    record { page = "<table><template><tr>x"; text = "tree \"<html><head></head><body><table><template><tr></tr>x</template></table></body></html>\"\n" } ∷
    -- foster place at a table in a template
    record { page = "<template><table>x<tr>"; text = "tree \"<html><head><template>x<table><tbody><tr></tr></tbody></table></template></head><body></body></html>\"\n" } ∷
    []

abbrev pub captions_and_columns : List Example
captions_and_columns =
    -- caption
    record { page = "<table><caption>a</td>b</caption><tr><td>c"; text = "tree \"<html><head></head><body><table><caption>ab</caption><tbody><tr><td>c</td></tr></tbody></table></body></html>\"\n" } ∷
    -- formatting stays out of captions
    record { page = "<p><b>1</p><table><caption>2</caption><td>3</table>4"; text = "tree \"<html><head></head><body><p><b>1</b></p><table><caption>2</caption><tbody><tr><td>3</td></tr></tbody></table><b>4</b></body></html>\"\n" } ∷
    -- formatting stays out of cells
    record { page = "<p><b>1</p><table><caption>2<tr><td>3<td>4</td></tr></table>5"; text = "tree \"<html><head></head><body><p><b>1</b></p><table><caption>2</caption><tbody><tr><td>3</td><td>4</td></tr></tbody></table><b>5</b></body></html>\"\n" } ∷
    -- formatting stays out of tables
    record { page = "<p><b>1</p><table><caption>2</table><table><td>3</table>4"; text = "tree \"<html><head></head><body><p><b>1</b></p><table><caption>2</caption></table><table><tbody><tr><td>3</td></tr></tbody></table><b>4</b></body></html>\"\n" } ∷
    -- end of a table in a caption
    record { page = "<table><caption>a</table>b"; text = "tree \"<html><head></head><body><table><caption>a</caption></table>b</body></html>\"\n" } ∷
    -- columns
    record { page = "<table><col></col><col><colgroup> <col>x<tr>"; text = "tree \"<html><head></head><body>x<table><colgroup><col><col></colgroup><colgroup> <col></colgroup><tbody><tr></tr></tbody></table></body></html>\"\n" } ∷
    -- template in columns
    record { page = "<table><colgroup><html a=1><template>b</template><col></colgroup></colgroup><tr>"; text = "tree \"<html a=\\\"1\\\"><head></head><body><table><colgroup><template>b</template><col></colgroup><tbody><tr></tr></tbody></table></body></html>\"\n" } ∷
    []

abbrev pub rows_and_cells : List Example
rows_and_cells =
    -- context of a row
    record { page = "<table><tr><p>1<td>2</td><p>3</tr><p>4<td>5</td></tr><p>6</tbody><tr>"; text = "tree \"<html><head></head><body><p>1</p><p>3</p><p>4</p><p>6</p><table><tbody><tr><td>2</td></tr><tr><td>5</td></tr></tbody><tbody><tr></tr></tbody></table></body></html>\"\n" } ∷
    -- end of a row
    record { page = "<table><tr><p>1</tr><!--2-->"; text = "tree \"<html><head></head><body><p>1</p><table><tbody><tr></tr><!--2--></tbody></table></body></html>\"\n" } ∷
    -- end of a section
    record { page = "<table><tbody><p>1</tbody><!--2-->"; text = "tree \"<html><head></head><body><p>1</p><table><tbody></tbody><!--2--></table></body></html>\"\n" } ∷
    -- context of a section
    record { page = "<table><tbody><p>1<tr><p>2<tr><p>3<tfoot><p>4<tbody><tr><p>5</tbody>6"; text = "tree \"<html><head></head><body><p>1</p><p>2</p><p>3</p><p>4</p><p>5</p>6<table><tbody><tr></tr><tr></tr></tbody><tfoot></tfoot><tbody><tr></tr></tbody></table></body></html>\"\n" } ∷
    -- cell in a section
    record { page = "<table><tr></tr></td><td>a</tbody><th>b"; text = "tree \"<html><head></head><body><table><tbody><tr></tr><tr><td>a</td></tr></tbody><tbody><tr><th>b</th></tr></tbody></table></body></html>\"\n" } ∷
    -- end of no section
    record { page = "<table><tbody></thead><tr></tfoot><td>a</thead>b"; text = "tree \"<html><head></head><body><table><tbody><tr><td>ab</td></tr></tbody></table></body></html>\"\n" } ∷
    -- end of no section in a row
    record { page = "<table><tr><td>a</td></tfoot><td>b"; text = "tree \"<html><head></head><body><table><tbody><tr><td>a</td><td>b</td></tr></tbody></table></body></html>\"\n" } ∷
    -- end of a section in a row
    record { page = "<table><tr><td>a</td></tbody><td>b"; text = "tree \"<html><head></head><body><table><tbody><tr><td>a</td></tr></tbody><tbody><tr><td>b</td></tr></tbody></table></body></html>\"\n" } ∷
    -- end of a row in a cell
    record { page = "<table><td><p>a</tr>b"; text = "tree \"<html><head></head><body>b<table><tbody><tr><td><p>a</p></td></tr></tbody></table></body></html>\"\n" } ∷
    -- caption in a cell
    record { page = "<table><td>a<caption>b"; text = "tree \"<html><head></head><body><table><tbody><tr><td>a</td></tr></tbody><caption>b</caption></table></body></html>\"\n" } ∷
    -- end of the other cell
    record { page = "<table><td>a</th>b</td>c"; text = "tree \"<html><head></head><body>c<table><tbody><tr><td>ab</td></tr></tbody></table></body></html>\"\n" } ∷
    -- formatting ends with its cell
    record { page = "<table><td><b>a<td>b"; text = "tree \"<html><head></head><body><table><tbody><tr><td><b>a</b></td><td>b</td></tr></tbody></table></body></html>\"\n" } ∷
    []

abbrev pub selects : List Example
selects =
    -- options and hr
    record { page = "<select><option>a<option>b<hr><optgroup><option>c<hr>d</select>e"; text = "tree \"<html><head></head><body><select><option>a</option><option>b</option><hr><optgroup><option>c</option></optgroup><hr>d</select>e</body></html>\"\n" } ∷
    -- options and groups
    record { page = "<select><option>a<optgroup><option>b<optgroup>c"; text = "tree \"<html><head></head><body><select><option>a</option><optgroup><option>b</option></optgroup><optgroup>c</optgroup></select></body></html>\"\n" } ∷
    -- ends of options
    record { page = "<select><optgroup><option>a</optgroup>b<option>c</optgroup>d</option>e</option>f"; text = "tree \"<html><head></head><body><select><optgroup><option>a</option></optgroup>b<option>cd</option>ef</select></body></html>\"\n" } ∷
    -- select in select
    record { page = "<select>a<select>b"; text = "tree \"<html><head></head><body><select>a</select>b</body></html>\"\n" } ∷
    -- input in a select
    record { page = "<select><option>a<input>b<select><textarea>c"; text = "tree \"<html><head></head><body><select><option>a</option></select><input>b<select></select><textarea>c</textarea></body></html>\"\n" } ∷
    -- left out in a select
    record { page = "<select><p>a<b>b<tr></p><table><td>c<html k=1></select>"; text = "tree \"<html k=\\\"1\\\"><head></head><body><select>abc</select></body></html>\"\n" } ∷
    -- script in a select
    record { page = "<select><script>x</script><template><p>a</template><p>b"; text = "syntax 1\ntree \"<html><head></head><body><select><script>x</script><template><p>a</p></template>b</select></body></html>\"\n" } ∷
    -- end of a table in a select
    record { page = "<table><td><select><option>a</table>b"; text = "tree \"<html><head></head><body><table><tbody><tr><td><select><option>a</option></select></td></tr></tbody></table>b</body></html>\"\n" } ∷
    -- cell closes a select
    record { page = "<table><td><select>a</caption>b<td>c"; text = "tree \"<html><head></head><body><table><tbody><tr><td><select>ab</select></td><td>c</td></tr></tbody></table></body></html>\"\n" } ∷
    -- select in a table
    record { page = "<table><select><option>a<tr><td>b"; text = "tree \"<html><head></head><body><select><option>a</option></select><table><tbody><tr><td>b</td></tr></tbody></table></body></html>\"\n" } ∷
    -- selects in a table
    record { page = "<table><caption><select>1<tbody><select>2<tr><select>3<td>4"; text = "tree \"<html><head></head><body><select>2</select><select>3</select><table><caption><select>1</select></caption><tbody><tr><td>4</td></tr></tbody></table></body></html>\"\n" } ∷
    -- select in formatting
    record { page = "<p><b>1</p><select>2"; text = "tree \"<html><head></head><body><p><b>1</b></p><b><select>2</select></b></body></html>\"\n" } ∷
    -- select in a block in a cell
    record { page = "<table><td><div><select><option>a<div>b<td>c"; text = "tree \"<html><head></head><body><table><tbody><tr><td><div><select><option>ab</option></select></div></td><td>c</td></tr></tbody></table></body></html>\"\n" } ∷
    []

abbrev pub templates : List Example
templates =
    -- script in a template
    record { page = "<template>x<script>document.write(\"n\");</script></template>y"; text = "tree \"<html><head><template>x<script>document.write(\\\"n\\\");</script></template></head><body>y</body></html>\"\n" } ∷
    -- end of no template
    record { page = "<head></template><title>a</title>b</template>c"; text = "tree \"<html><head><title>a</title></head><body>bc</body></html>\"\n" } ∷
    -- end of no template after head
    record { page = "<head></head></template> a"; text = "tree \"<html><head></head> <body>a</body></html>\"\n" } ∷
    -- end of a template
    record { page = "<div><template><p>a</div>b</template>c</div>d"; text = "tree \"<html><head></head><body><div><template><p>ab</p></template>c</div>d</body></html>\"\n" } ∷
    -- ends left out in a template
    record { page = "<template><basefont></p>a"; text = "tree \"<html><head><template><basefont>a</template></head><body></body></html>\"\n" } ∷
    -- formatting stays out of a template
    record { page = "<p><b>1</p><template>2</b><i>3</template>4"; text = "tree \"<html><head></head><body><p><b>1</b></p><template>2<i>3</i></template><b>4</b></body></html>\"\n" } ∷
    -- columns in a template
    record { page = "<table><template><col></colgroup>x<tr></template><tr><td>y"; text = "tree \"<html><head></head><body><table><template><col></template><tbody><tr><td>y</td></tr></tbody></table></body></html>\"\n" } ∷
    -- rows in a template
    record { page = "<template><tr><td>a</td></tr></table><tbody>b"; text = "tree \"<html><head><template><tr><td>a</td></tr>b</template></head><body></body></html>\"\n" } ∷
    -- cells in a template
    record { page = "<template><td>a</tr><td>b</td></tr><tr></table>c<td>d"; text = "tree \"<html><head><template><td>a</td><td>b</td>c<td>d</td></template></head><body></body></html>\"\n" } ∷
    -- sections in a template
    record { page = "<template><tbody><tr></tbody><caption>a"; text = "tree \"<html><head><template><tbody><tr></tr></tbody><caption>a</caption></template></head><body></body></html>\"\n" } ∷
    -- html in a template
    record { page = "<template>a<html b=c><body d=e>f"; text = "tree \"<html><head><template>af</template></head><body></body></html>\"\n" } ∷
    -- frameset in a template
    record { page = "<template><frameset><frame>a"; text = "tree \"<html><head><template>a</template></head><body></body></html>\"\n" } ∷
    -- template in head
    record { page = "<template></template><title>a</title>b"; text = "tree \"<html><head><template></template><title>a</title></head><body>b</body></html>\"\n" } ∷
    -- template after head
    record { page = "<head></head><template>a</template><p>b"; text = "tree \"<html><head><template>a</template></head><body><p>b</p></body></html>\"\n" } ∷
    -- templates in rows
    record { page = "<table><template></template><tbody><template></template><tr><template></template><td>a"; text = "tree \"<html><head></head><body><table><template></template><tbody><template></template><tr><template></template><td>a</td></tr></tbody></table></body></html>\"\n" } ∷
    -- template in a caption
    record { page = "<table><caption><template></template>a"; text = "tree \"<html><head></head><body><table><caption><template></template>a</caption></table></body></html>\"\n" } ∷
    -- template in a cell
    record { page = "<table><td><template>a</template><td>b"; text = "tree \"<html><head></head><body><table><tbody><tr><td><template>a</template></td><td>b</td></tr></tbody></table></body></html>\"\n" } ∷
    -- template in a select in a table
    record { page = "<table><td><select><template></template><tr><td>a"; text = "tree \"<html><head></head><body><table><tbody><tr><td><select><template></template></select></td></tr><tr><td>a</td></tr></tbody></table></body></html>\"\n" } ∷
    -- select in a template in a table
    record { page = "<table><td><template><select><template></template><tr>a</template>b"; text = "tree \"<html><head></head><body><table><tbody><tr><td><template><select><template></template>a</select></template>b</td></tr></tbody></table></body></html>\"\n" } ∷
    -- mode of a template behind another
    record { page = "<template><template><tr></template></p>a"; text = "tree \"<html><head><template><template><tr></tr></template>a</template></head><body></body></html>\"\n" } ∷
    -- modes behind templates
    record { page = "<template><p>1<template><tr></template></p>2<template><td></template></p>3<template><col></template></p>4<template><caption></template></p>5<template><i></template></p>6"; text = "tree \"<html><head><template><p>1<template><tr></tr></template></p>2<template><td></td></template><p></p>3<template><col></template><p></p>4<template><caption></caption></template><p></p>5<template><i></i></template><p></p>6</template></head><body></body></html>\"\n" } ∷
    -- end in columns of a template
    record { page = "<template><col>"; text = "tree \"<html><head><template><col></template></head><body></body></html>\"\n" } ∷
    -- end in nested templates
    record { page = "<template>a<template><tr><td><select>b"; text = "tree \"<html><head><template>a<template><tr><td><select>b</select></td></tr></template></template></head><body></body></html>\"\n" } ∷
    []

abbrev pub framesets : List Example
framesets =
    -- frames
    record { page = "<frameset><frame><noframes>a<b></noframes></frameset>c<noframes>d</noframes>"; text = "tree \"<html><head></head><frameset><frame><noframes>a<b></noframes></frameset><noframes>d</noframes></html>\"\n" } ∷
    -- framesets
    record { page = "<frameset> a<frameset></frameset><frame></frameset> </frameset>b</html> <!--c--><noframes>d</noframes>e"; text = "tree \"<html><head></head><frameset> <frameset></frameset><frame></frameset>  <noframes>d</noframes></html><!--c-->\"\n" } ∷
    -- frameset behind white space
    record { page = "<p> \n<frameset>"; text = "tree \"<html><head></head><frameset></frameset></html>\"\n" } ∷
    -- frameset behind text
    record { page = "<p>a<frameset><frame>"; text = "tree \"<html><head></head><body><p>a</p></body></html>\"\n" } ∷
    -- frameset behind a template
    record { page = "<p><template></template><frameset>"; text = "tree \"<html><head></head><body><p><template></template></p></body></html>\"\n" } ∷
    -- frameset behind a template after head
    record { page = "<head></head><template></template><p><frameset>"; text = "tree \"<html><head><template></template></head><body><p></p></body></html>\"\n" } ∷
    -- frameset behind a table
    record { page = "<p><table></table><frameset>"; text = "tree \"<html><head></head><body><p><table></table></p></body></html>\"\n" } ∷
    -- frameset behind a select
    record { page = "<p><select></select><frameset>"; text = "tree \"<html><head></head><body><p><select></select></p></body></html>\"\n" } ∷
    -- frameset behind a body
    record { page = "<body><frameset>"; text = "tree \"<html><head></head><body></body></html>\"\n" } ∷
    -- text beside framesets
    record { page = "<frameset>a<p>b<html k=1></frameset>c<p>d<html l=2></html>e<p>f<html m=3>"; text = "tree \"<html k=\\\"1\\\" l=\\\"2\\\" m=\\\"3\\\"><head></head><frameset></frameset></html>\"\n" } ∷
    -- comments beside framesets
    record { page = "<frameset><!--a--></frameset><!--b--></html><!--c-->"; text = "tree \"<html><head></head><frameset><!--a--></frameset><!--b--></html><!--c-->\"\n" } ∷
    []

-- fragments
abbrev pub fragments : List Example
fragments =
    -- the children of an element are a fragment's, whose script doesn't run
    record { page = "<div id=\"d\">o</div><script>document.getElementById(\"d\").innerHTML = \"<b>x<script>foo();<\\/script>\";</script>y"; text = "tree \"<html><head></head><body><div id=\\\"d\\\"><b>x<script>foo();</script></b></div><script>document.getElementById(\\\"d\\\").innerHTML = \\\"<b>x<script>foo();<\\\\/script>\\\";</script>y</body></html>\"\n" } ∷
    -- cells in a row
    record { page = "<table><tr id=\"d\"></tr></table><script>document.getElementById(\"d\").innerHTML = \"<td>a<td>b\";</script>"; text = "tree \"<html><head></head><body><table><tbody><tr id=\\\"d\\\"><td>a</td><td>b</td></tr></tbody></table><script>document.getElementById(\\\"d\\\").innerHTML = \\\"<td>a<td>b\\\";</script></body></html>\"\n" } ∷
    -- a cell gives in body
    record { page = "<table><tr><td id=\"d\">o</table><script>document.getElementById(\"d\").innerHTML = \"<td>a\";</script>"; text = "tree \"<html><head></head><body><table><tbody><tr><td id=\\\"d\\\">a</td></tr></tbody></table><script>document.getElementById(\\\"d\\\").innerHTML = \\\"<td>a\\\";</script></body></html>\"\n" } ∷
    -- a select in a table looks for a table on the stack alone
    record { page = "<table id=\"d\"></table><script>document.getElementById(\"d\").innerHTML = \"<select><template></template><td>x\";</script>"; text = "tree \"<html><head></head><body><table id=\\\"d\\\"><select><template></template>x</select></table><script>document.getElementById(\\\"d\\\").innerHTML = \\\"<select><template></template><td>x\\\";</script></body></html>\"\n" } ∷
    -- a template's contents
    record { page = "<template id=\"d\">o</template><script>document.getElementById(\"d\").innerHTML = \"<tr><td>a\";</script>"; text = "tree \"<html><head><template id=\\\"d\\\"><tr><td>a</td></tr></template><script>document.getElementById(\\\"d\\\").innerHTML = \\\"<tr><td>a\\\";</script></head><body></body></html>\"\n" } ∷
    -- no start tag came before the text of a textarea
    record { page = "<textarea id=\"d\"></textarea><script>document.getElementById(\"d\").innerHTML = \"a<\\/textarea>\";</script>"; text = "tree \"<html><head></head><body><textarea id=\\\"d\\\">a&lt;/textarea&gt;</textarea><script>document.getElementById(\\\"d\\\").innerHTML = \\\"a<\\\\/textarea>\\\";</script></body></html>\"\n" } ∷
    -- svg and an integration point
    record { page = "<svg><g id=\"d\"></g><title id=\"e\"></title></svg><script>document.getElementById(\"d\").innerHTML = \"<circle/>\"; document.getElementById(\"e\").innerHTML = \"<br>\";</script>"; text = "tree \"<html><head></head><body><svg><g id=\\\"d\\\"><circle></circle></g><title id=\\\"e\\\"><br></title></svg><script>document.getElementById(\\\"d\\\").innerHTML = \\\"<circle/>\\\"; document.getElementById(\\\"e\\\").innerHTML = \\\"<br>\\\";</script></body></html>\"\n" } ∷
    -- the form element pointer
    record { page = "<form><div id=\"d\"></div></form><script>document.getElementById(\"d\").innerHTML = \"<form>x</form><form>y\";</script>"; text = "tree \"<html><head></head><body><form><div id=\\\"d\\\">x<form>y</form></div></form><script>document.getElementById(\\\"d\\\").innerHTML = \\\"<form>x</form><form>y\\\";</script></body></html>\"\n" } ∷
    -- an html context: no body ends twice
    record { page = "<html id=\"d\"><body><script>document.getElementById(\"d\").innerHTML = \"<p>a</html><!--b-->\";</script>z"; text = "tree \"<html id=\\\"d\\\"><head></head><body><p>a</p></body><!--b--></html>\"\n" } ∷
    -- text behind joins the fragment's
    record { page = "<div id=\"d\"><table><script>document.getElementById(\"d\").innerHTML = \"q\";</script>x"; text = "tree \"<html><head></head><body><div id=\\\"d\\\">qx</div></body></html>\"\n" } ∷
    -- no such element
    record { page = "<script>document.getElementById(\"d\").innerHTML = \"x\";</script>"; text = "throw 1\ntree \"<html><head><script>document.getElementById(\\\"d\\\").innerHTML = \\\"x\\\";</script></head><body></body></html>\"\n" } ∷
    []

-- svg and math
abbrev pub foreign_content : List Example
foreign_content =
    -- attributes and an element respelled; a foreignObject stays open at the end of its svg
    record { page = "<svg viewbox=\"0\"><foreignobject><p>a</svg>b"; text = "tree \"<html><head></head><body><svg viewBox=\\\"0\\\"><foreignObject><p>ab</p></foreignObject></svg></body></html>\"\n" } ∷
    -- a CDATA section in svg, and none outside
    record { page = "<svg><![CDATA[a<b]]></svg><![CDATA[c]]>"; text = "tree \"<html><head></head><body><svg>a&lt;b</svg><!--[CDATA[c]]--></body></html>\"\n" } ∷
    -- brackets in a CDATA section
    record { page = "<svg><![CDATA[a]b]]c]]]></svg>"; text = "tree \"<html><head></head><body><svg>a]b]]c]</svg></body></html>\"\n" } ∷
    -- a CDATA section cut by the end
    record { page = "<svg><![CDATA[x]]"; text = "tree \"<html><head></head><body><svg>x]]</svg></body></html>\"\n" } ∷
    -- in small letters it is a comment
    record { page = "<svg><![cdata[x]]></svg>"; text = "tree \"<html><head></head><body><svg><!--[cdata[x]]--></svg></body></html>\"\n" } ∷
    -- a CDATA section at an integration point
    record { page = "<math><mi><![CDATA[<]]></mi>"; text = "tree \"<html><head></head><body><math><mi>&lt;</mi></math></body></html>\"\n" } ∷
    -- foreign content is left at p
    record { page = "<svg><g><p>y"; text = "tree \"<html><head></head><body><svg><g></g></svg><p>y</p></body></html>\"\n" } ∷
    -- a script of svg never runs
    record { page = "<svg><script>document.write(\"n\");</script></svg>m"; text = "tree \"<html><head></head><body><svg><script>document.write(\\\"n\\\");</script></svg>m</body></html>\"\n" } ∷
    -- a script that closes itself
    record { page = "<svg><script/>x"; text = "tree \"<html><head></head><body><svg><script></script>x</svg></body></html>\"\n" } ∷
    -- mglyph is of MathML at a text integration point
    record { page = "<math><mi>a<mglyph></mi>b"; text = "tree \"<html><head></head><body><math><mi>a<mglyph></mglyph></mi>b</math></body></html>\"\n" } ∷
    -- other start tags there are of HTML
    record { page = "<math><mo><p>a</mo>b"; text = "tree \"<html><head></head><body><math><mo><p>ab</p></mo></math></body></html>\"\n" } ∷
    -- a title of svg is no RCDATA
    record { page = "<svg><title><p>x</title>"; text = "tree \"<html><head></head><body><svg><title><p>x</p></title></svg></body></html>\"\n" } ∷
    -- annotation-xml of an encoding of HTML
    record { page = "<math><annotation-xml encoding=\"Text/HTML\"><p>a"; text = "tree \"<html><head></head><body><math><annotation-xml encoding=\\\"Text/HTML\\\"><p>a</p></annotation-xml></math></body></html>\"\n" } ∷
    -- annotation-xml of none
    record { page = "<math><annotation-xml><p>a"; text = "tree \"<html><head></head><body><math><annotation-xml></annotation-xml></math><p>a</p></body></html>\"\n" } ∷
    -- svg in annotation-xml
    record { page = "<math><annotation-xml><svg>a"; text = "tree \"<html><head></head><body><math><annotation-xml><svg>a</svg></annotation-xml></math></body></html>\"\n" } ∷
    -- font with a color leaves svg
    record { page = "<svg><font color=x>a"; text = "tree \"<html><head></head><body><svg></svg><font color=\\\"x\\\">a</font></body></html>\"\n" } ∷
    -- font without is of svg
    record { page = "<svg><font>a"; text = "tree \"<html><head></head><body><svg><font>a</font></svg></body></html>\"\n" } ∷
    -- the end of p leaves svg
    record { page = "<svg></p>a"; text = "tree \"<html><head></head><body><svg></svg><p></p>a</body></html>\"\n" } ∷
    -- svg in a table is foster parented
    record { page = "<table><svg>x"; text = "tree \"<html><head></head><body><svg>x</svg><table></table></body></html>\"\n" } ∷
    -- a cell in desc is left out
    record { page = "<svg><desc><td>x"; text = "tree \"<html><head></head><body><svg><desc>x</desc></svg></body></html>\"\n" } ∷
    -- an attribute of MathML
    record { page = "<math definitionurl=x viewbox=y>"; text = "tree \"<html><head></head><body><math definitionURL=\\\"x\\\" viewbox=\\\"y\\\"></math></body></html>\"\n" } ∷
    -- attributes and elements of svg
    record { page = "<svg clippathunits=1><clippath/><g definitionurl=x />"; text = "tree \"<html><head></head><body><svg clipPathUnits=\\\"1\\\"><clipPath></clipPath><g definitionurl=\\\"x\\\"></g></svg></body></html>\"\n" } ∷
    -- an end tag is compared in lower case
    record { page = "<svg><foreignobject></foreignobject>a"; text = "tree \"<html><head></head><body><svg><foreignObject></foreignObject>a</svg></body></html>\"\n" } ∷
    -- a template of svg has no contents
    record { page = "<svg><template>a"; text = "tree \"<html><head></head><body><svg><template>a</template></svg></body></html>\"\n" } ∷
    -- an end tag of HTML is for HTML elements alone
    record { page = "<math><mn><s></mn>x"; text = "tree \"<html><head></head><body><math><mn><s>x</s></mn></math></body></html>\"\n" } ∷
    -- an end tag reaches an HTML element
    record { page = "<div><svg><g></div>a"; text = "tree \"<html><head></head><body><div><svg><g></g></svg></div>a</body></html>\"\n" } ∷
    -- mi ends a scope
    record { page = "<p><math><mi></p>a"; text = "tree \"<html><head></head><body><p><math><mi><p></p>a</mi></math></p></body></html>\"\n" } ∷
    -- svg that closes itself
    record { page = "<svg/>a"; text = "tree \"<html><head></head><body><svg></svg>a</body></html>\"\n" } ∷
    -- an element of svg is void by no name
    record { page = "<svg><input>a"; text = "tree \"<html><head></head><body><svg><input>a</input></svg></body></html>\"\n" } ∷
    -- svg begun by a script: then a CDATA section is one
    record { page = "<div><script>document.write(\"<svg>\");</script><![CDATA[x]]>"; text = "tree \"<html><head></head><body><div><script>document.write(\\\"<svg>\\\");</script><svg>x</svg></div></body></html>\"\n" } ∷
    -- a CDATA section begun by a script
    record { page = "<body><script>document.write(\"<svg><![CDA\");</script>TA[<]]>b"; text = "tree \"<html><head></head><body><script>document.write(\\\"<svg><![CDA\\\");</script><svg>&lt;b</svg></body></html>\"\n" } ∷
    -- svg ended by a script: then it is a comment
    record { page = "<svg><desc><script>document.write(\"</svg>\");</script><![CDATA[x]]>"; text = "tree \"<html><head></head><body><svg><desc><script>document.write(\\\"</svg>\\\");</script></desc></svg><!--[CDATA[x]]--></body></html>\"\n" } ∷
    -- a script at an integration point runs
    record { page = "<svg><desc><script>document.write(\"n\");</script></svg>m"; text = "tree \"<html><head></head><body><svg><desc><script>document.write(\\\"n\\\");</script>n</desc></svg>m</body></html>\"\n" } ∷
    -- an element of svg is read
    record { page = "<svg id=s viewbox=0 /><script>console.log(document.getElementById(\"s\").outerHTML);</script>"; text = "log 1 \"<svg id=\\\"s\\\" viewBox=\\\"0\\\"></svg>\"\ntree \"<html><head></head><body><svg id=\\\"s\\\" viewBox=\\\"0\\\"></svg><script>console.log(document.getElementById(\\\"s\\\").outerHTML);</script></body></html>\"\n" } ∷
    -- comments and doctypes
    record { page = "<svg><!--a--><!DOCTYPE html>b"; text = "tree \"<html><head></head><body><svg><!--a-->b</svg></body></html>\"\n" } ∷
    -- style of svg is no RAWTEXT, and its text is escaped
    record { page = "<svg><style>a>b<g>c"; text = "tree \"<html><head></head><body><svg><style>a&gt;b<g>c</g></style></svg></body></html>\"\n" } ∷
    -- image keeps its name in foreign content
    record { page = "<math><image>\na"; text = "tree \"<html><head></head><body><math><image>\\na</image></math></body></html>\"\n" } ∷
    -- a and other formatting elements of svg are no formatting elements
    record { page = "<a><svg><a>x</svg>y"; text = "tree \"<html><head></head><body><a><svg><a>x</a></svg>y</a></body></html>\"\n" } ∷
    -- desc ends a scope: the b outside stays open
    record { page = "<b><svg><desc><i>x</b>y"; text = "tree \"<html><head></head><body><b><svg><desc><i>xy</i></desc></svg></b></body></html>\"\n" } ∷
    -- a list item at an integration point: desc is special, and so is li at the end of svg
    record { page = "<li><svg><desc><li>x</svg>y"; text = "tree \"<html><head></head><body><li><svg><desc><li>xy</li></desc></svg></li></body></html>\"\n" } ∷
    -- svg at an integration point of svg
    record { page = "<svg><title><svg></title>x"; text = "tree \"<html><head></head><body><svg><title><svg></svg></title>x</svg></body></html>\"\n" } ∷
    -- the end of svg ends all that stand in it
    record { page = "<svg><g><desc></svg>x"; text = "tree \"<html><head></head><body><svg><g><desc></desc></g></svg>x</body></html>\"\n" } ∷
    -- the end of a paragraph at an element of svg
    record { page = "<p><svg><g></p>x"; text = "tree \"<html><head></head><body><p><svg><g></g></svg></p>x</body></html>\"\n" } ∷
    -- the end of br
    record { page = "<svg></br>x"; text = "tree \"<html><head></head><body><svg></svg><br>x</body></html>\"\n" } ∷
    -- font with a face, and one with another attribute
    record { page = "<svg><font x=y></font><font face=z>a"; text = "tree \"<html><head></head><body><svg><font x=\\\"y\\\"></font></svg><font face=\\\"z\\\">a</font></body></html>\"\n" } ∷
    -- in a cell an element of svg
    record { page = "<table><tr><td><svg><td></td></svg>x<td>y"; text = "tree \"<html><head></head><body><table><tbody><tr><td><svg><td></td></svg>x</td><td>y</td></tr></tbody></table></body></html>\"\n" } ∷
    -- a cell at an integration point is another cell
    record { page = "<table><tr><td><svg><desc><td>x"; text = "tree \"<html><head></head><body><table><tbody><tr><td><svg><desc></desc></svg></td><td>x</td></tr></tbody></table></body></html>\"\n" } ∷
    -- select has no svg
    record { page = "<select><svg><option>x"; text = "tree \"<html><head></head><body><select><option>x</option></select></body></html>\"\n" } ∷
    -- svg in a template
    record { page = "<template><svg><p>x"; text = "tree \"<html><head><template><svg></svg><p>x</p></template></head><body></body></html>\"\n" } ∷
    -- text in svg leaves no frameset possible
    record { page = "<svg>x</svg><frameset>"; text = "tree \"<html><head></head><body><svg>x</svg></body></html>\"\n" } ∷
    -- svg alone leaves one possible
    record { page = "<svg><g></svg><frameset>"; text = "tree \"<html><head></head><frameset></frameset></html>\"\n" } ∷
    -- the end tag of body at an element of svg, and text behind it
    record { page = "<svg></body>x</svg>y"; text = "tree \"<html><head></head><body><svg>x</svg>y</body></html>\"\n" } ∷
    -- the end tag of html leaves svg open
    record { page = "<svg></html><g>"; text = "tree \"<html><head></head><body><svg><g></g></svg></body></html>\"\n" } ∷
    -- annotation-xml of XHTML, and svg in it
    record { page = "<math><annotation-xml encoding=\"application/xhtml+XML\"><svg><g></annotation-xml>x"; text = "tree \"<html><head></head><body><math><annotation-xml encoding=\\\"application/xhtml+XML\\\"><svg><g></g></svg></annotation-xml>x</math></body></html>\"\n" } ∷
    -- annotation-xml of another encoding
    record { page = "<math><annotation-xml encoding=\"text/html \"><div>a"; text = "tree \"<html><head></head><body><math><annotation-xml encoding=\\\"text/html \\\"></annotation-xml></math><div>a</div></body></html>\"\n" } ∷
    -- in svg an annotation-xml is no integration point
    record { page = "<svg><annotation-xml encoding=\"text/html\"><div>a"; text = "tree \"<html><head></head><body><svg><annotation-xml encoding=\\\"text/html\\\"></annotation-xml></svg><div>a</div></body></html>\"\n" } ∷
    -- a foreignobject of MathML is none
    record { page = "<math><foreignobject><div>a"; text = "tree \"<html><head></head><body><math><foreignobject></foreignobject></math><div>a</div></body></html>\"\n" } ∷
    -- attributes with a colon keep their names
    record { page = "<svg xlink:href=a xml:lang=b xmlns:xlink=c><g XLINK:TITLE=d>"; text = "tree \"<html><head></head><body><svg xlink:href=\\\"a\\\" xml:lang=\\\"b\\\" xmlns:xlink=\\\"c\\\"><g xlink:title=\\\"d\\\"></g></svg></body></html>\"\n" } ∷
    -- malignmark is of MathML at a text integration point, and math there begins anew
    record { page = "<math><mtext><malignmark></malignmark><math><mi>x"; text = "tree \"<html><head></head><body><math><mtext><malignmark></malignmark><math><mi>x</mi></math></mtext></math></body></html>\"\n" } ∷
    []
