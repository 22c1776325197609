mod LateLaws
