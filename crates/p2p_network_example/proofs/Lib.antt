mod Connected
